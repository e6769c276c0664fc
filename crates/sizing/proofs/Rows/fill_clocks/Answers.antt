-- `Rows::fill_clocks` meets its contract: the numbers of the clocks so far are written. Assumes nothing.
use mathlib.Core.Path.{refl}
use native.Mathlib.Omega.{arith}
use Rattle.sizing.specs.WorkOut.{clock_numbers}
use Rattle.sizing.proofs.Written.{written_none, written_more, take_next}
use Rattle.sizing.proofs.Rows.fill_clocks.Goals as goal

pub loop-i-init : goal.loop-i-init
loop-i-init c = written_none clock_numbers 4 (λ x. refl) _

pub loop-i-preserved : goal.loop-i-preserved
loop-i-preserved c =
    rw (take_next c.args.self.now.nodes.now c.loop-i.i c.node.result (omega arith) (rw c.node.ensures.node c.x-item.is))
    (written_more clock_numbers 4 (λ x. refl) _ _ _ _ _ c.loop-i.invariant c.node.result (omega arith) c.store_clock.ensures)
