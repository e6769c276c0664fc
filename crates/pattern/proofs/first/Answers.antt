-- `pattern::first` meets its contract.
-- Assumes nothing.
use Rattle.std.proofs.Common.{pos, sym, ◌∙◌, arith}
use Rattle.reply.proofs.Refusals.{passed_on}
use Rattle.judging.proofs.Admitted.{Admitted, is_admitted}
use Rattle.judging.proofs.Offsets.{near_start, near_more}
use Rattle.pattern.proofs.Answers.{first_bad, first_done}
use Rattle.pattern.proofs.first.Goals as goal
use Rattle.pattern.proofs.first.Goals.{In_ok-admit}

admitted_here : (c : In_ok-admit) → Admitted c.args.e c.args.pattern.now
admitted_here c = (is_admitted _ _ _ _ (sym c.in_ok-admit.was ∙ c.admit.ensures)).0

pub returns-in_err-admit : goal.returns-in_err-admit
returns-in_err-admit c =
    rw (passed_on _ _ c.from_residual.ensures)
    (first_bad _ c.args.pattern.now _ _ (sym c.in_err-admit.was ∙ c.admit.ensures))

pub fill-requires : goal.fill-requires
fill-requires c =
    let h = admitted_here (goal.at.fill-requires c).In_ok-admit in
    (h.taken, h.short, near_more 0 _ (pos 0) (omega arith) near_start)

pub returns : goal.returns
returns c =
    let h = admitted_here (goal.at.returns c).In_ok-admit in
    first_done _ c.args.pattern.now h.fine h.short c.fill.new.rest c.fill.ensures
