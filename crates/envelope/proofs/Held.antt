-- What the machine holds of the numbers of an envelope within its limits, and the bounds of their products.
-- Assumes nothing.
use mathlib.Core.Path.{◌≡◌}
use Prim.Native.Nat.{ℕ, ◌*◌, ◌≤◌, ◌<◌}
use native.Mathlib.Nat.{mul-le-mul, le_of_dvd}
use native.Mathlib.Omega.{arith}
use lib.IntN.{ℤ, pos, ◌-ℤ◌, ◌*ℤ◌}
use lib.Signed.{◌≤ℤ◌}
use mir.Syntax.{w64}
use mir.Val.{SFits, to_z, of_z}
use mir.Facts.{to_z-of_z}
use Rattle.whole.specs.Euclid.{gcd_of}
use Rattle.whole.proofs.Euclid.{gcd_is, gcd_pos}
use Rattle.whole.proofs.Bridge.{up, down, up_most, down_most, up_mul, down_mul, up_diff_le, down_diff_le, sfits_small}
use Rattle.whole.proofs.Machine.{held}
use Rattle.envelope.specs.declared.Envelope.{Envelope}
use Rattle.envelope.specs.Limits.{l_most, lower_least, lower_most, upper_least, upper_most}
use Rattle.envelope.specs.Envelope.{Limits, Taken}

-- a number as small as l and n are
pub small_held : (n : ℕ) → n ≤ l_most → to_z w64 n ≡ pos n
small_held n h = held n (omega arith)

module _ (e : Envelope) (h : Limits e) where
  pub k_up : up e.k ≤ up lower_most
  k_up = up_most h.k_most

  pub k_down : down e.k ≤ down lower_least
  k_down = down_most e.k (down lower_least) h.k_least

  pub K_up : up e.K ≤ up upper_most
  K_up = up_most h.K_most

  pub K_down : down e.K ≤ down upper_least
  K_down = down_most e.K (down upper_least) h.K_least

  pub k_fits : SFits w64 e.k
  k_fits = sfits_small (omega (arith, k_up, k_down))

  pub K_fits : SFits w64 e.K
  K_fits = sfits_small (omega (arith, K_up, K_down))

  pub room_fits : SFits w64 (e.K -ℤ e.k)
  room_fits =
      sfits_small (omega (arith, up_diff_le e.K e.k, down_diff_le e.K e.k, k_up, k_down, K_up, K_down))

  pub k_held : to_z w64 (of_z w64 e.k) ≡ e.k
  k_held = to_z-of_z k_fits

  pub K_held : to_z w64 (of_z w64 e.K) ≡ e.K
  K_held = to_z-of_z K_fits

  pub l_held : to_z w64 e.l ≡ pos e.l
  l_held = small_held e.l h.l_within

module _ (e : Envelope) (t : Taken e) where
  pub n_small : e.n ≤ l_most
  n_small = omega (arith, t.n_most, t.limits.l_within)

  pub n_held : to_z w64 e.n ≡ pos e.n
  n_held = small_held e.n n_small

-- ---- products
pub small : (a b : ℕ) → a ≤ l_most → b ≤ l_most → a * b ≤ l_most * l_most
small a b p q = mul-le-mul p q

pub product :
    (x : ℤ) (n : ℕ) →
    n ≤ l_most →
    lower_least ≤ℤ x →
    x ≤ℤ lower_most →
    (up (x *ℤ pos n) ≤ up lower_most * l_most) × (down (x *ℤ pos n) ≤ down lower_least * l_most)
product x n h p q =
    let a : up x ≤ up lower_most = up_most q in
    let b : down x ≤ down lower_least = down_most x (down lower_least) p in
    (omega (arith, up_mul x n, mul-le-mul a h), omega (arith, down_mul x n, mul-le-mul b h))

-- ---- what four numbers are divided by
pub divisor_least : (l n g : ℕ) → g ≡ gcd_of l n → 0 < n → 0 < g
divisor_least l n g e h = omega (arith, gcd_pos l n h)

pub divisor_most : (l n g : ℕ) → g ≡ gcd_of l n → 0 < n → g ≤ n
divisor_most l n g e h = omega (arith, le_of_dvd h (gcd_is l n).right)
