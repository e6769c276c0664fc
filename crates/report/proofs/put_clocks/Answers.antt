-- `put_clocks` meets its contract: the lines of the other clocks, put from here, give what all give. Assumes nothing.
use mathlib.Core.Path.{◌≡◌, ◌∙◌}
use native.Mathlib.Omega.{arith}
use lib.ListN.{length}
use Rattle.line.specs.Text.{put}
use Rattle.line.proofs.Puts.{put_more}
use Rattle.line.specs.Letters.{letters}
use Rattle.report.proofs.ClockRows.{clocks_next, clocks_none}
use Rattle.report.proofs.put_clocks.Goals as goal

pub loop-i-preserved : goal.loop-i-preserved
loop-i-preserved c =
    let rows = c.args.rows.now in
    let next = clocks_next rows.nodes.now rows.states.now c.loop-i.i (omega (arith, rows.ready.many)) (omega arith) c.node.result (rw c.node.ensures.node c.x-item.is) in
    record {
      same = c.put_clock.ensures.same ∙ c.loop-i.invariant.same;
      going = put_more _ _ (letters "clock") _ _ _ next c.put_clock.ensures.put ∙ c.loop-i.invariant.going;
    }

pub returns : goal.returns
unfolding put
returns c =
    let done : c.loop-i.i ≡ length c.args.rows.now.states.now = omega (arith, c.args.rows.now.ready.many) in
    record {
      same = c.loop-i.invariant.same;
      put = rw (clocks_none c.args.rows.now.nodes.now c.args.rows.now.states.now c.loop-i.i done) at c.loop-i.invariant.going;
    }
