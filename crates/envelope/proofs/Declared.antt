-- The fields of a declared node, each within its limit, made normal: l, k and K are still within their limits.
-- Assumes nothing.
use mathlib.Core.Path.{ap}
use Prim.Native.Nat.{ℕ, ◌*◌, ◌≤◌, ◌<◌}
use native.Mathlib.Nat.{div-le_self, mul-le-mul_left, mul-one}
use native.Mathlib.Omega.{arith}
use lib.IntN.{ℤ, pos, negsuc, neg_ℤ, ◌+ℤ◌, ◌*ℤ◌}
use lib.Signed.{◌≤ℤ◌, ◌<ℤ◌}
use Rattle.whole.specs.Rounding.{floor_div, ceil_div}
use Rattle.whole.specs.Euclid.{gcd_of}
use Rattle.whole.proofs.Bridge.{sum, up_neg, down_neg, up_mul, down_mul, orders}
use Rattle.whole.proofs.Rounding.{ceil_high, ceil_least, mul_next}
use Rattle.whole.proofs.Euclid.{gcd_pos}
use Rattle.envelope.specs.Envelope.{Limits, normal_of}
use Rattle.envelope.specs.Made.{Fields}
use Rattle.envelope.proofs.Result.{result_limits}
use Rattle.envelope.proofs.Normal.{normal_n_least, normal_n_most}

-- rounding up keeps a number between -m and m
ceil_keeps : (k : ℤ) (g m : ℕ) → 0 < g → neg_ℤ (pos m) ≤ℤ k → k ≤ℤ pos m → (neg_ℤ (pos m) ≤ℤ ceil_div k g) × (ceil_div k g ≤ℤ pos m)
ceil_keeps k g m h p q =
    let c : ℤ = ceil_div k g in
    let one : m * 1 ≤ m * g = mul-le-mul_left m h in
    let low : (neg_ℤ (pos m) *ℤ pos g) <ℤ ((c *ℤ pos g) +ℤ pos g) =
    omega (arith, orders, one, mul-one m, ceil_high k g h, sum (c *ℤ pos g) (pos g), up_mul (neg_ℤ (pos m)) g, down_mul (neg_ℤ (pos m)) g, ap (λ (n : ℕ). n * g) (up_neg (pos m)), ap (λ (n : ℕ). n * g) (down_neg (pos m)), up_neg (pos m), down_neg (pos m)) in
    let high : k ≤ℤ (pos m *ℤ pos g) = omega (arith, orders, one, mul-one m, up_mul (pos m) g, down_mul (pos m) g) in
    (mul_next (neg_ℤ (pos m)) c g low, ceil_least k (pos m) g h high)

-- rounding down keeps one between 0 and m
floor_keeps : (k : ℤ) (g m : ℕ) → pos 0 ≤ℤ k → k ≤ℤ pos m → (pos 0 ≤ℤ floor_div k g) × (floor_div k g ≤ℤ pos m)
floor_keeps (pos a) g m p q = (omega (arith, orders), omega (arith, orders, div-le_self a g))
floor_keeps (negsuc a) g m p q = absurd (omega (arith, orders))

pub normal_limits : (k K : ℤ) (l n : ℕ) → Fields k K l n → Limits (normal_of k K l n)
unfolding normal_of
normal_limits k K l n f =
    let g : ℕ = gcd_of l n in
    let s = f.limits in
    let c = ceil_keeps k g 1_000_000_000 (gcd_pos l n f.n_least) s.k_least s.k_most in
    let d = floor_keeps K g 1_000_000_000 s.K_least s.K_most in
    result_limits _ _ _ _
    (record { l_within = omega (arith, div-le_self l g, s.l_within); k_least = c.0; k_most = c.1; K_least = d.0; K_most = d.1 })

pub normal_n : (k K : ℤ) (l n : ℕ) → Fields k K l n → (1 ≤ (normal_of k K l n).n) × ((normal_of k K l n).n ≤ (normal_of k K l n).l)
normal_n k K l n f = (normal_n_least k K l n f.n_least, normal_n_most k K l n f.n_least f.n_most)
