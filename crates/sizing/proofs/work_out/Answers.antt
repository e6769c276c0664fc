-- `work_out` meets its contract: what was read decides, and what is given of the tables. Assumes nothing.
use mathlib.Core.Path.{sym}
use Rattle.reply.proofs.Refusals.{passed_on}
use Rattle.sizing.specs.Inner.Rows.{FoundIn}
use Rattle.sizing.proofs.Outcome.{out_refused, found_given}
use Rattle.sizing.proofs.work_out.Goals as goal

pub returns-in_err-found : goal.returns-in_err-found
returns-in_err-found c = rw (passed_on _ _ c.from_residual.ensures) (out_refused _ _ _ _ (sym c.in_err-found.ensures.found))

pub returns : goal.returns
returns c =
    let found : FoundIn c.args.sheet.now c.in_ok-found.found c.read.new.tables.nodes c.read.new.tables.states c.read.new.tables.ends =
    record { bytes = λ j. (c.type_inv.sheet j).fits; told = sym c.in_ok-found.ensures.found; tabled = c.in_ok-found.ensures.tables } in
    found_given _ _ _ _ _ found _ _ _ (c.of.ensures _ found) _ _ _ _ _ c.give.ensures
