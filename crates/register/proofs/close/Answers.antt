-- `close` meets its contract. Assumes nothing.
use borrow.Author.Rules.{rules}
use Rattle.reply.proofs.Refusals.{passed_on}
use Rattle.field.specs.Spelling.{AllBytes}
use Rattle.register.proofs.Finds.{at_within, close_refused, close_already, close_open}
use Rattle.register.proofs.close.Goals as goal

pub returns-in_err-at : goal.returns-in_err-at
returns-in_err-at c = rw (passed_on _ _ c.from_residual.ensures) (close_refused _ _ _ c.in_err-at.ensures)

pub bounds-sheet-at : goal.bounds-sheet-at
bounds-sheet-at c = at_within _ c.args.clock (λ j. (c.type_inv.sheet j).fits) _ _ c.in_ok-at.ensures

pub returns-then-sheet-at-eq1 : goal.returns-then-sheet-at-eq1
returns-then-sheet-at-eq1 c = rw c.at.ensures (close_already _ _ (λ j. (c.type_inv.sheet j).fits) _ _ c.in_ok-at.ensures c.if-sheet-at-eq1.true)

pub bounds-sheet-at-2 : goal.bounds-sheet-at-2
bounds-sheet-at-2 c =
    let bytes : AllBytes c.args.sheet.now = search rules in
    at_within _ c.args.clock bytes _ _ c.in_ok-at.ensures

pub returns : goal.returns
returns c =
    let bytes : AllBytes c.args.sheet.now = search rules in
    close_open _ _ bytes _ _ c.in_ok-at.ensures c.if-sheet-at-eq1.false
