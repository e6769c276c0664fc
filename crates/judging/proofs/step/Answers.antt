-- `judging::step` meets its contract: l times a bit is l or 0.
-- Assumes nothing.
use Rattle.std.proofs.Common.{◌*◌, ◌≤◌, pos, ◌-ℤ◌, ◌∙◌, w64, SFits}
use Rattle.envelope.proofs.Held.{n_held, small_held}
use Rattle.envelope.specs.Limits.{l_most}
use Rattle.whole.proofs.Machine.{back_by}
use Rattle.judging.proofs.Offsets.{step_is, step_fits, product_most}
use Rattle.judging.proofs.step.Goals as goal

pub returns : goal.returns
returns c =
    let small : c.args.e.l * c.args.b ≤ l_most = product_most c.args.e c.requires.0 c.args.b c.requires.1 in
    let whole_step : SFits w64 (pos c.args.e.n -ℤ pos (c.args.e.l * c.args.b)) = rw (step_is c.args.e c.args.b c.requires.1) (step_fits c.args.e c.requires.0 c.args.b) in
    back_by ◌-ℤ◌ (n_held c.args.e c.requires.0) (small_held (c.args.e.l * c.args.b) (small)) (whole_step)
    ∙ step_is c.args.e c.args.b c.requires.1
