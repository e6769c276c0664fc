-- The text of a number of either sign, by what a test against 0 tells of it. Assumes nothing.
use mathlib.Core.Path.{◌≡◌}
use mathlib.Core.Bool.{true, false}
use mathlib.Core.List.{◌∷◌}
use Prim.Native.Nat.{ℕ}
use lib.IntN.{ℤ, pos, nat_abs}
use lib.Signed.{lt_z}
use Rattle.whole.proofs.Signs.{below, above}
use Rattle.line.specs.Text.{minus, digits, decimal}

-- a minus sign and digits, where y is z as the machine holds it
pub minus_first : {y z : ℤ} {m : ℕ} → y ≡ z → lt_z y (pos 0) ≡ true → m ≡ nat_abs y → minus ∷ digits m ≡ decimal z
unfolding decimal
minus_first {y} e t a = rw (a, ← e, (below y t).is)

pub no_minus : {y z : ℤ} {m : ℕ} → y ≡ z → lt_z y (pos 0) ≡ false → m ≡ nat_abs y → digits m ≡ decimal z
unfolding decimal
no_minus {y} e t a = rw (a, ← e, (above y t).is)
