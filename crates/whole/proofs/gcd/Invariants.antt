-- The loop's invariant: x and y have the greatest common divisor of a and b. The measure is y.
use Rattle.std.proofs.Common.{◌≡◌}
use Rattle.whole.specs.Euclid.{gcd_of}
use Rattle.whole.proofs.gcd.Given as goal

abbrev pub invariant-loop-y : goal.invariant-loop-y
invariant-loop-y l = gcd_of l.x l.y ≡ gcd_of l.fn.a l.fn.b

abbrev pub decreases-loop-y : goal.decreases-loop-y
decreases-loop-y l = l.y
