-- Each remainder keeps the greatest common divisor, and the last one leaves it.
use Rattle.std.proofs.Common.{sym, ap, ◌∙◌}
use native.Mathlib.Nat.{pos_of_ne-zero}
use Rattle.whole.specs.Euclid.{gcd_of}
use Rattle.whole.proofs.Euclid.{gcd_zero, gcd_step}
use Rattle.whole.proofs.gcd.Goals as goal

pub loop-y-preserved : goal.loop-y-preserved
loop-y-preserved c = gcd_step c.loop-y.x c.loop-y.y (pos_of_ne-zero c.loop-y-test.true) ∙ c.loop-y.invariant

pub returns : goal.returns
returns c = sym (gcd_zero c.loop-y.x) ∙ ap (gcd_of c.loop-y.x) (sym c.loop-y-test.false) ∙ c.loop-y.invariant
