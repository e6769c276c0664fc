-- The larger of two whole numbers is the least that neither exceeds, and the smaller the greatest that exceeds neither.
-- Assumes nothing.
use mathlib.Core.Path.{◌≡◌, refl, sym, subst}
use mathlib.Core.Logic.{◌⊎◌, inl, inr}
use mathlib.Core.Bool.{Bool, true, false, cond}
use native.Mathlib.Omega.{arith}
use lib.IntN.{ℤ}
use lib.Signed.{◌≤ℤ◌, lt_z}
use Rattle.whole.specs.Order.{larger, smaller}
use Rattle.whole.proofs.Bridge.{signed}

-- a bit is 1 or 0
pub which : (b : Bool) → (b ≡ true) ⊎ (b ≡ false)
which true = inl refl
which false = inr refl

module _ (x y : ℤ) where
  -- a choice between the two by their order, by cases
  by_order : (P : ℤ → Type 0) (a b : ℤ) → (lt_z x y ≡ true → P a) → (lt_z x y ≡ false → P b) → P (cond (lt_z x y) a b)
  by_order P a b f g = go (which (lt_z x y))
    where
      go : (lt_z x y ≡ true) ⊎ (lt_z x y ≡ false) → P (cond (lt_z x y) a b)
      go (inl e) = subst (λ (t : Bool). P (cond t a b)) (sym e) (f e)
      go (inr e) = subst (λ (t : Bool). P (cond t a b)) (sym e) (g e)

  pub larger_left : x ≤ℤ larger x y
  larger_left = by_order (λ z. x ≤ℤ z) y x (λ e. omega (arith, signed)) (λ e. omega (arith, signed))

  pub larger_right : y ≤ℤ larger x y
  larger_right = by_order (λ z. y ≤ℤ z) y x (λ e. omega (arith, signed)) (λ e. omega (arith, signed))

  pub larger_least : (z : ℤ) → x ≤ℤ z → y ≤ℤ z → larger x y ≤ℤ z
  larger_least z p q = by_order (λ w. w ≤ℤ z) y x (λ e. q) (λ e. p)

  pub smaller_left : smaller x y ≤ℤ x
  smaller_left = by_order (λ z. z ≤ℤ x) x y (λ e. omega (arith, signed)) (λ e. omega (arith, signed))

  pub smaller_right : smaller x y ≤ℤ y
  smaller_right = by_order (λ z. z ≤ℤ y) x y (λ e. omega (arith, signed)) (λ e. omega (arith, signed))
