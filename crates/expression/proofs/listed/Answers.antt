-- The index was read, and the table has a node there or none.
use mathlib.Core.Path.{◌≡◌}
use mathlib.Core.Option.{none, some}
use lib.ListN.{get_elem?}
use Rattle.expression.specs.Inner.Parts.{listed_at}
use Rattle.expression.proofs.Lookup.{lookup_at, lookup_past}
use Rattle.expression.proofs.listed.Goals as goal

pub returns-in-Some : goal.returns-in-Some
unfolding listed_at
returns-in-Some c =
    let found : get_elem? c.args.table.now c.in_ok-i.i ≡ some c.in-Some.x.now = lookup_at _ _ _ c.in-Some.ensures.lookup.3.0 c.in-Some.ensures.lookup.1 in
    rw (← c.in_ok-i.ensures, found)

pub returns-in-None : goal.returns-in-None
unfolding listed_at
returns-in-None c =
    let absent : get_elem? c.args.table.now c.in_ok-i.i ≡ none = lookup_past _ _ c.in-None.ensures.lookup.3 in
    rw (← c.in_ok-i.ensures, absent, c.refusal.ensures)
