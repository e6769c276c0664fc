-- A number's sign, as the machine finds it. Assumes nothing.
use mathlib.Core.Path.{◌≡◌, refl, sym, ◌∙◌, subst⁻¹}
use mathlib.Core.Bool.{true, false}
use Prim.Native.Nat.{ℕ, ◌<◌, ◌^◌}
use native.Mathlib.Omega.{arith}
use lib.IntN.{ℤ, pos, negsuc, nat_abs}
use lib.Signed.{lt_z, non_neg}
use lib.Dec.{T}
use mir.Syntax.{w64}
use mir.Val.{Fits, SFits, to_z, of_z}
use mir.Facts.{to_z-of_z}
use Rattle.whole.proofs.Bridge.{lt_z_true, lt_z_false}

-- what a test against 0 tells of a number: how many steps it is below -1, or above 0
pub record Below (z : ℤ) : Type 0 where
  pub steps : ℕ
  pub is : z ≡ negsuc steps

pub below : (z : ℤ) → lt_z z (pos 0) ≡ true → Below z
below (pos n) t = absurd (omega (arith, lt_z_true (pos n) (pos 0) t))
below (negsuc m) t = record { steps = m; is = refl }

pub record Above (z : ℤ) : Type 0 where
  pub steps : ℕ
  pub is : z ≡ pos steps

pub above : (z : ℤ) → lt_z z (pos 0) ≡ false → Above z
above (pos n) t = record { steps = n; is = refl }
above (negsuc m) t = absurd (omega (arith, lt_z_false (negsuc m) (pos 0) t))

-- ---- a number that is not negative, cast to one without a sign
pub cast_fits : {y : ℤ} {m : ℕ} → y ≡ pos m → m < 2 ^ 63 → T (non_neg y) × Fits w64 (nat_abs y)
cast_fits e h = subst⁻¹ (λ (y : ℤ). T (non_neg y) × Fits w64 (nat_abs y)) e (tt, record { fits = omega arith })

pub cast_above : (z : ℤ) → SFits w64 z → lt_z (to_z w64 (of_z w64 z)) (pos 0) ≡ false → T (non_neg (to_z w64 (of_z w64 z))) × Fits w64 (nat_abs (to_z w64 (of_z w64 z)))
cast_above z f t =
    let b = above _ t in
    let small : b.steps < 2 ^ 63 = (rw (sym (to_z-of_z f) ∙ b.is) at f).sfits in
    cast_fits b.is small
