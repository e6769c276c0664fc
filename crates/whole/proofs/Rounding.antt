-- Laws of division rounded down and up.
-- Assumes nothing.
use mathlib.Core.Path.{◌≡◌, ap}
use Prim.Native.Nat.{ℕ, zero, suc, ◌+◌, ◌*◌, ◌/◌, ◌≤◌, ◌<◌}
use native.Mathlib.Nat.{div-add-mod', mod-lt, suc-mul, add-mul, mul-le-mul_right, lt_of_mul-lt-mul_right, div-le_self, zero-div}
use native.Mathlib.Omega.{arith}
use lib.IntN.{ℤ, pos, negsuc, neg_ℤ, ◌+ℤ◌, ◌*ℤ◌}
use lib.Signed.{◌≤ℤ◌, ◌<ℤ◌, quot_z}
use mir.Syntax.{Width}
use mir.Val.{SFits}
use Rattle.whole.specs.Rounding.{floor_div, ceil_div}
use Rattle.whole.proofs.Bridge.{up, down, sum, up_neg, down_neg, up_mul, down_mul, orders, signed}

-- ---- laws of products by a natural

pub mul_mono : {x y : ℤ} (d : ℕ) → x ≤ℤ y → (x *ℤ pos d) ≤ℤ (y *ℤ pos d)
mul_mono {x} {y} d h =
    let p : (up x + down y) * d ≤ (up y + down x) * d = mul-le-mul_right d (≤ℤ-reads' h) in
    omega (arith, orders, p, add-mul (up x) (down y) d, add-mul (up y) (down x) d, up_mul x d, down_mul x d, up_mul y d, down_mul y d)
  where
    ≤ℤ-reads' : x ≤ℤ y → up x + down y ≤ up y + down x
    ≤ℤ-reads' h = omega (arith, orders)

-- a product by d, of a number that is greater by one
pub next : (a b d : ℕ) → a * d < b * d + d → a ≤ b
next a b d h =
    let q : a * d < suc b * d = omega (arith, suc-mul b d) in
    let r : a < suc b = lt_of_mul-lt-mul_right d q in
    omega arith

-- x * d < y * d + d only where x ≤ y
pub mul_next : (x y : ℤ) (d : ℕ) → (x *ℤ pos d) <ℤ ((y *ℤ pos d) +ℤ pos d) → x ≤ℤ y
mul_next x y d h =
    let p : (up x + down y) * d < (up y + down x) * d + d =
    omega (arith, orders, sum (y *ℤ pos d) (pos d), add-mul (up x) (down y) d, add-mul (up y) (down x) d, up_mul x d, down_mul x d, up_mul y d, down_mul y d) in
    let q : up x + down y ≤ up y + down x = next (up x + down y) (up y + down x) d p in
    omega (arith, orders)

-- ---- rounded down

pub floor_low : (x : ℤ) (d : ℕ) → 0 < d → (floor_div x d *ℤ pos d) ≤ℤ x
floor_low (pos a) d h = omega (arith, orders, div-add-mod' a d)
floor_low (negsuc a) d h =
    omega (arith, orders, up_mul (negsuc (a / d)) d, down_mul (negsuc (a / d)) d, suc-mul (a / d) d, div-add-mod' a d, mod-lt a h)

pub floor_high : (x : ℤ) (d : ℕ) → 0 < d → x <ℤ ((floor_div x d *ℤ pos d) +ℤ pos d)
floor_high (pos a) d h = omega (arith, orders, div-add-mod' a d, mod-lt a h)
floor_high (negsuc a) d h =
    omega (arith, orders, sum (negsuc (a / d) *ℤ pos d) (pos d), up_mul (negsuc (a / d)) d, down_mul (negsuc (a / d)) d, suc-mul (a / d) d, div-add-mod' a d)

-- the greatest number whose product by d is at most x
pub floor_greatest : (x z : ℤ) (d : ℕ) → 0 < d → (z *ℤ pos d) ≤ℤ x → z ≤ℤ floor_div x d
floor_greatest x z d h p =
    mul_next z (floor_div x d) d (omega (arith, orders, floor_high x d h))

pub floor_only : (x q : ℤ) (d : ℕ) → 0 < d → (q *ℤ pos d) ≤ℤ x → x <ℤ ((q *ℤ pos d) +ℤ pos d) → q ≡ floor_div x d
floor_only x q d h p r =
    omega (arith, orders, floor_greatest x q d h p, mul_next (floor_div x d) q d (omega (arith, orders, floor_low x d h)))

-- ---- rounded up

pub ceil_high : (x : ℤ) (d : ℕ) → 0 < d → x ≤ℤ (ceil_div x d *ℤ pos d)
ceil_high x d h =
    omega (arith, orders, floor_low (neg_ℤ x) d h, up_mul (ceil_div x d) d, down_mul (ceil_div x d) d, up_mul (floor_div (neg_ℤ x) d) d, down_mul (floor_div (neg_ℤ x) d) d, up_neg x, down_neg x, ap (λ (n : ℕ). n * d) (up_neg (floor_div (neg_ℤ x) d)), ap (λ (n : ℕ). n * d) (down_neg (floor_div (neg_ℤ x) d)))

pub ceil_low : (x : ℤ) (d : ℕ) → 0 < d → (ceil_div x d *ℤ pos d) <ℤ (x +ℤ pos d)
ceil_low x d h =
    omega (arith, orders, floor_high (neg_ℤ x) d h, sum x (pos d), sum (floor_div (neg_ℤ x) d *ℤ pos d) (pos d), up_mul (ceil_div x d) d, down_mul (ceil_div x d) d, up_mul (floor_div (neg_ℤ x) d) d, down_mul (floor_div (neg_ℤ x) d) d, up_neg x, down_neg x, ap (λ (n : ℕ). n * d) (up_neg (floor_div (neg_ℤ x) d)), ap (λ (n : ℕ). n * d) (down_neg (floor_div (neg_ℤ x) d)))

-- the least number whose product by d is at least x
pub ceil_least : (x z : ℤ) (d : ℕ) → 0 < d → x ≤ℤ (z *ℤ pos d) → ceil_div x d ≤ℤ z
ceil_least x z d h p =
    mul_next (ceil_div x d) z d (omega (arith, orders, ceil_low x d h, sum x (pos d), sum (z *ℤ pos d) (pos d)))

pub ceil_only : (x q : ℤ) (d : ℕ) → 0 < d → x ≤ℤ (q *ℤ pos d) → (q *ℤ pos d) <ℤ (x +ℤ pos d) → q ≡ ceil_div x d
ceil_only x q d h p r =
    omega (arith, orders, ceil_least x q d h p, mul_next q (ceil_div x d) d (omega (arith, orders, ceil_high x d h, sum x (pos d), sum (ceil_div x d *ℤ pos d) (pos d))))

-- ---- what fits a type, divided, fits it: rounded toward 0, down and up

pub quot_fits : {w : Width} (x : ℤ) (d : ℕ) → SFits w x → SFits w (quot_z x (pos d))
quot_fits (pos a) d h = omega (arith, signed, div-le_self a d)
quot_fits (negsuc a) d h = omega (arith, signed, up_neg (pos (suc a / d)), down_neg (pos (suc a / d)), div-le_self (suc a) d)

pub floor_fits : {w : Width} (x : ℤ) (d : ℕ) → SFits w x → SFits w (floor_div x d)
floor_fits (pos a) d h = omega (arith, signed, div-le_self a d)
floor_fits (negsuc a) d h = omega (arith, signed, div-le_self a d)

pub ceil_fits : {w : Width} (x : ℤ) (d : ℕ) → SFits w x → SFits w (ceil_div x d)
ceil_fits (pos zero) d h = omega (arith, signed, zero-div d, up_neg (pos (0 / d)), down_neg (pos (0 / d)))
ceil_fits (pos (suc a)) d h = omega (arith, signed, div-le_self a d)
ceil_fits (negsuc a) d h = omega (arith, signed, up_neg (pos (suc a / d)), down_neg (pos (suc a / d)), div-le_self (suc a) d)
