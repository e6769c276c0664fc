-- What is proved of the definitions: rounding is the nearest whole number on its side, and Euclid's method gives the greatest common divisor.
use Rattle.std.specs.Prelude.{◌≡◌, ℕ, ◌+◌, ◌*◌, ◌/◌, ◌%◌, ◌≤◌, ◌<◌, ℤ, pos, ◌+ℤ◌, ◌*ℤ◌, ◌≤ℤ◌, ◌<ℤ◌}
use Rattle.std.specs.Int.{◌∣◌}
use Rattle.whole.specs.Rounding.{floor_div, ceil_div}
use Rattle.whole.specs.Euclid.{gcd_of, remainders_of}

-- x/d rounded down: at most x/d, less than 1 below it, the greatest such number, and the only one
pub record RoundsDown (x : ℤ) (d : ℕ) : Type 0 where
  pub at_most : (floor_div x d *ℤ pos d) ≤ℤ x
  pub near : x <ℤ ((floor_div x d *ℤ pos d) +ℤ pos d)
  pub greatest : (z : ℤ) → (z *ℤ pos d) ≤ℤ x → z ≤ℤ floor_div x d
  pub only : (z : ℤ) → (z *ℤ pos d) ≤ℤ x → x <ℤ ((z *ℤ pos d) +ℤ pos d) → z ≡ floor_div x d

-- x/d rounded up: at least x/d, less than 1 above it, the least such number, and the only one
pub record RoundsUp (x : ℤ) (d : ℕ) : Type 0 where
  pub at_least : x ≤ℤ (ceil_div x d *ℤ pos d)
  pub near : (ceil_div x d *ℤ pos d) <ℤ (x +ℤ pos d)
  pub least : (z : ℤ) → x ≤ℤ (z *ℤ pos d) → ceil_div x d ≤ℤ z
  pub only : (z : ℤ) → x ≤ℤ (z *ℤ pos d) → (z *ℤ pos d) <ℤ (x +ℤ pos d) → z ≡ ceil_div x d

-- g divides a and b, and every number that divides both divides g
pub record IsGcd (a b g : ℕ) : Type 0 where
  pub left : g ∣ a
  pub right : g ∣ b
  pub most : (c : ℕ) → c ∣ a → c ∣ b → c ∣ g

-- the laws of this crate, over every number
pub record Whole : Type 0 where
  pub down : (x : ℤ) (d : ℕ) → 0 < d → RoundsDown x d
  pub up : (x : ℤ) (d : ℕ) → 0 < d → RoundsUp x d
  -- it is a greatest common divisor, no number above it divides both, and there is no other
  pub divides : (a b : ℕ) → IsGcd a b (gcd_of a b)
  pub greatest : (a b c : ℕ) → 0 < b → c ∣ a → c ∣ b → c ≤ gcd_of a b
  pub only : (a b g : ℕ) → IsGcd a b g → g ≡ gcd_of a b
  -- dividing by it leaves no common factor
  pub coprime : (a b : ℕ) → 0 < b → gcd_of (a / gcd_of a b) (b / gcd_of a b) ≡ 1
  -- for l and n without a common factor every remainder is reached: n divides some l*j + c, whatever c is
  pub reached : (l n c : ℕ) → 0 < n → gcd_of l n ≡ 1 → (j : ℕ) × (m : ℕ) × (n * m ≡ l * j + c)
  -- the count is that of the method's own steps
  pub none_taken : (a : ℕ) → remainders_of a 0 ≡ 0
  pub one_taken : (a b : ℕ) → 0 < b → remainders_of a b ≡ 1 + remainders_of b (a % b)
