-- `pattern::check` meets its contract.
-- Assumes nothing.
use Rattle.std.proofs.Common.{sym, ◌∙◌}
use Rattle.reply.proofs.Refusals.{passed_on}
use Rattle.pattern.proofs.Answers.{check_is}
use Rattle.pattern.proofs.check.Goals as goal

pub returns-in_err-judge : goal.returns-in_err-judge
returns-in_err-judge c =
    rw (passed_on _ _ c.from_residual.ensures)
    (record { answer_is = check_is _ c.args.pattern.now _ (sym c.in_err-judge.was ∙ c.judge.ensures) })

pub returns : goal.returns
returns c =
    record { answer_is = check_is _ c.args.pattern.now _ (sym c.in_ok-judge.was ∙ c.judge.ensures) }
