-- `pattern::last_lift` meets its contract. The loop's invariant: d is the offset past the bits that are left, and the lift is that of those.
-- Assumes nothing.
use Rattle.std.proofs.Common.{◌≡◌, ◌≤◌, pos, length}
use Rattle.judging.specs.Bytes.{plain}
use Rattle.pattern.specs.Inner.Lifts.{reached, lift_of}
use Rattle.pattern.proofs.last_lift.Given as goal

abbrev pub invariant-loop-i : goal.invariant-loop-i
invariant-loop-i l = let left = l.i-iterator.iter.iter.rest.now in
    (l.i-iterator.iter.count ≡ 0)
    × (length left ≤ length l.pattern)
    × (length left ≤ plain left)
    × (l.d ≡ reached l.e (pos 0) left)
    × (lift_of l.e l.pattern ≡ lift_of l.e left)
