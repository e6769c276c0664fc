-- The four fields are read in turn, each within its limits, and then the rule decides.
use mathlib.Core.Path.{sym}
use native.Mathlib.Omega.{arith}
use Rattle.field.proofs.Fields.{field_there}
use Rattle.envelope.specs.Made.{Fields}
use Rattle.envelope.proofs.Held.{k_held, K_held}
use Rattle.expression.proofs.Fields.{fields_read, declared_read}
use Rattle.expression.proofs.declared.Goals as goal
use Rattle.expression.proofs.declared.Goals.{In_ok-n}

fields : (c : In_ok-n) → Fields c.in_ok-k.k c.in_ok-top.top c.in_ok-l.l c.in_ok-n.n
fields c = fields_read _ _ _ _ _ _ _ _ _ _ (sym c.in_ok-k.ensures) (sym c.in_ok-top.ensures) (sym c.in_ok-l.ensures) (sym c.in_ok-n.ensures)

pub overflow_add-l : goal.overflow_add-l
overflow_add-l c = record { fits = omega (arith, (field_there _ _ _ _ _ _ _ _ (sym c.in_ok-l.ensures)).most) }

pub declared-requires : goal.declared-requires
declared-requires c = let f = fields (goal.at.declared-requires c).In_ok-n in rw (k_held _ f.limits, K_held _ f.limits) f

pub returns : goal.returns
returns c = let f = fields (goal.at.returns c).In_ok-n in
    rw (c.place.ensures, c.declared.ensures.value, k_held _ f.limits, K_held _ f.limits)
    (sym (declared_read _ _ _ _ _ _ _ _ _ _ (sym c.in_ok-k.ensures) (sym c.in_ok-top.ensures) (sym c.in_ok-l.ensures) (sym c.in_ok-n.ensures) _))
