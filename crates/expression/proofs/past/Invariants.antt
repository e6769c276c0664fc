-- Up to where the expression ends, `left` expressions stand at `at`. The measure is what is left of the length.
use Prim.Native.Nat.{ℕ, ◌-◌}
use lib.ListN.{length}
use Rattle.expression.specs.Inner.Skipping.{HasExpr}
use Rattle.expression.proofs.Skips.{Left}
use Rattle.expression.proofs.past.Given as goal

abbrev pub invariant-loop-left : goal.invariant-loop-left
invariant-loop-left l = (c : ℕ) → HasExpr l.s l.start c → Left l.s l.left l.at c

abbrev pub decreases-loop-left : goal.decreases-loop-left
decreases-loop-left l = length l.s - l.at
