-- A signed local holds bits. What the machine reads back from them is the number that they were made of.
-- Assumes nothing.
use mathlib.Core.Path.{◌≡◌, refl, ap₂, subst⁻¹, ◌∙◌}
use Prim.Native.Nat.{ℕ, ◌^◌, ◌<◌}
use lib.IntN.{ℤ, pos}
use lib.Signed.{mag}
use mir.Syntax.{w64}
use mir.Val.{SFits, to_z, of_z}
use mir.Facts.{to_z-of_z}

-- the bits of d, which is below 2 ^ 63, read as signed
pub held : (d : ℕ) → d < 2 ^ 63 → to_z w64 d ≡ pos d
held d h = to_z-of_z {w = w64} {z = pos d} (record { sfits = h })

-- ---- an operation on signed numbers of which the machine has u and v, for x and y. A proof goes through an expression by these two:
-- `back` of each operand is the equation of the operation above it
pub fits_by : (f : ℤ → ℤ → ℤ) {u v x y : ℤ} → u ≡ x → v ≡ y → SFits w64 (f x y) → SFits w64 (f u v)
fits_by f p q s = subst⁻¹ (λ (z : ℤ). SFits w64 z) (ap₂ f p q) s

pub back_by : (f : ℤ → ℤ → ℤ) {u v x y : ℤ} → u ≡ x → v ≡ y → SFits w64 (f x y) → to_z w64 (of_z w64 (f u v)) ≡ f x y
back_by f p q s = to_z-of_z (fits_by f p q s) ∙ ap₂ f p q

-- a call's result, and a field of a struct
pub told : (z : ℤ) → mag z < 2 ^ 63 → to_z w64 (of_z w64 z) ≡ z
told z p = to_z-of_z {w = w64} {z = z} (record { sfits = p })

-- the numeral 1, where an operand's equation is asked for
pub one_is : pos 1 ≡ pos 1
one_is = refl
