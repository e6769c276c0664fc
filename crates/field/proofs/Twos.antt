-- Two's complement, whatever the width: bits stand for one number, and a number has one spelling in bits. Assumes nothing.
use mathlib.Core.Path.{◌≡◌, refl, ap, ◌∙◌}
use mathlib.Core.Bool.{Bool, true, false, cond}
use Prim.Native.Nat.{ℕ, ◌+◌, ◌-◌, ◌≤◌, ◌<◌}
use native.Mathlib.Omega.{arith}
use lib.IntN.{ℤ, pos, negsuc}
use lib.Dec.{ltb}
use borrow.Author.Tests.{lt-ltb, le-ltb, ltb-true, ltb-false}
use Rattle.whole.proofs.Bridge.{up, down}
use Rattle.field.specs.Spelling.{twos_by}
use Rattle.field.specs.Field.{signed_by}

module _ (half : ℕ) where
  -- the two halves
  pub signed_low : (v : ℕ) → v < half → signed_by half v ≡ pos v
  signed_low v h = rw (lt-ltb v half h)

  pub signed_high : (v : ℕ) → half ≤ v → signed_by half v ≡ negsuc (half + half - 1 - v)
  signed_high v h = rw (le-ltb v half h)

  pub by_halves : (P : ℤ → Type 0) (v : ℕ) → (v < half → P (pos v)) → (half ≤ v → P (negsuc (half + half - 1 - v))) → P (signed_by half v)
  by_halves P v low high = go (ltb v half) refl
    where
      go : (t : Bool) → ltb v half ≡ t → P (cond t (pos v) (negsuc (half + half - 1 - v)))
      go true e = low (ltb-true v half e)
      go false e = high (ltb-false v half e)

  -- bits are those of their number
  pub twos_signed : (v : ℕ) → v < half + half → twos_by half (signed_by half v) ≡ v
  unfolding twos_by
  twos_signed v h = by_halves (λ z. twos_by half z ≡ v) v (λ l. refl) (λ l. omega arith)

  -- the bits of a number are among those that there are, and a number is that of its bits
  pub twos_below : (z : ℤ) → up z < half → down z ≤ half → twos_by half z < half + half
  unfolding twos_by
  twos_below (pos n) h k = omega arith
  twos_below (negsuc n) h k = omega arith

  pub signed_twos : (z : ℤ) → up z < half → down z ≤ half → signed_by half (twos_by half z) ≡ z
  unfolding twos_by
  signed_twos (pos n) h k = signed_low n h
  signed_twos (negsuc n) h k = signed_high (half + half - 1 - n) (omega arith) ∙ ap negsuc (omega arith)
