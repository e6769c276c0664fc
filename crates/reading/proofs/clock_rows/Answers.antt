-- `clock_rows` meets its contract: the clocks so far are in the tables, and the others stand at the cursor.
-- Assumes nothing.
use Rattle.std.proofs.Common.{◌≡◌, Ok, refl, sym, arith}
use Rattle.field.proofs.Read.{read_passed_on}
use Rattle.reading.proofs.Sections.ClockTable.{kept_none, kept_more, kept_refused, kept_all, clocks_refused}
use Rattle.reading.proofs.clock_rows.Goals as goal

pub loop-i-init : goal.loop-i-init
loop-i-init c = kept_none _ _ _ _ _ _

pub returns-in_err-mark : goal.returns-in_err-mark
returns-in_err-mark c = clocks_refused _ _ _ _ _ _
    (kept_refused _ _ _ _ _ _ _ _ c.loop-i.invariant c.loop-i-test.true _ _ (sym c.in_err-mark.ensures))
    (read_passed_on _ _ c.from_residual.ensures refl)

pub loop-i-preserved : goal.loop-i-preserved
loop-i-preserved c =
    let h = c.requires in
    kept_more _ _ _ _ _ _ _ _ c.loop-i.invariant c.loop-i-test.true c.in_ok-mark.mark _ _ _
    (sym c.in_ok-mark.ensures) (omega arith) (omega arith) refl refl

pub returns : goal.returns
returns c = let done : c.loop-i.i ≡ c.args.n = omega arith in
    kept_all _ _ _ _ _ _ _ _ c.loop-i.invariant done (Ok (c.args.n, c.loop-i.c)) refl
