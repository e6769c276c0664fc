-- `quote_reply` meets its contract. Assumes nothing.
use Rattle.reply.proofs.Refusals.{passed_on}
use Rattle.register.proofs.Finds.{replies_refused, replies_there}
use Rattle.register.proofs.quote_reply.Goals as goal

pub returns-in_err-find : goal.returns-in_err-find
returns-in_err-find c = rw (passed_on _ _ c.from_residual.ensures) (replies_refused _ _ _ c.in_err-find.ensures)

pub returns : goal.returns
returns c = replies_there _ _ (λ j. (c.type_inv.sheet j).fits) _ _ c.in_ok-find.ensures
