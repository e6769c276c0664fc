-- Making four numbers normal loses no stream and gains none, and leaves l and n without a common factor.
-- Assumes nothing.
use mathlib.Core.Path.{◌≡◌, sym, ap, ap₂, ◌∙◌, subst}
use mathlib.Core.Bool.{Bool}
use Prim.Native.Nat.{ℕ, zero, suc, ◌+◌, ◌*◌, ◌/◌, ◌≤◌, ◌<◌}
use native.Mathlib.Nat.{add-mul, mul_right_comm, mul-le-mul_right, div-mul_cancel, zero-mul, le_of_mul-le-mul_right}
use native.Mathlib.Omega.{arith}
use lib.IntN.{ℤ, pos, ◌+ℤ◌, ◌*ℤ◌}
use lib.Signed.{◌≤ℤ◌}
use Rattle.whole.specs.Rounding.{floor_div, ceil_div}
use Rattle.whole.specs.Euclid.{gcd_of}
use Rattle.whole.proofs.Bridge.{up, down, sum, up_mul, down_mul, orders}
use Rattle.whole.proofs.Rounding.{ceil_low, ceil_high, floor_low, floor_high, next}
use Rattle.whole.proofs.Euclid.{gcd_is, gcd_pos, gcd_coprime}
use Rattle.envelope.specs.Stream.{Within, Keeps}
use Rattle.envelope.specs.Envelope.{Normal, normal_of}
use Rattle.envelope.proofs.Result.{result_l, result_n, result_keeps, keeps_result, result_rate_one}

shuffle : (x y j g : ℕ) → x * g ≡ y → x * j * g ≡ y * j
shuffle x y j g e = mul_right_comm x j g ∙ ap (λ (i : ℕ). i * j) e

-- g times l' and n' are l and n
module _ (g : ℕ) (hg : 0 < g) (l' n' l n : ℕ) (el : l' * g ≡ l) (en : n' * g ≡ n) (k : ℤ) (j t : ℕ) where
  low_divided : (pos (l * j) +ℤ k) ≤ℤ pos (n * t) → (pos (l' * j) +ℤ ceil_div k g) ≤ℤ pos (n' * t)
  low_divided p =
      let c : ℤ = ceil_div k g in
      let q : (l' * j + up c) * g < (n' * t + down c) * g + g =
      omega (arith, orders, ceil_low k g hg, sum (pos (l * j)) k, sum k (pos g), up_mul c g, down_mul c g, add-mul (l' * j) (up c) g, add-mul (n' * t) (down c) g, shuffle l' l j g el, shuffle n' n t g en) in
      omega (arith, orders, sum (pos (l' * j)) c, next (l' * j + up c) (n' * t + down c) g q)

  low_back : (pos (l' * j) +ℤ ceil_div k g) ≤ℤ pos (n' * t) → (pos (l * j) +ℤ k) ≤ℤ pos (n * t)
  low_back p =
      let c : ℤ = ceil_div k g in
      let q : (l' * j + up c) * g ≤ (n' * t + down c) * g = mul-le-mul_right g (omega (arith, orders, sum (pos (l' * j)) c)) in
      omega (arith, orders, q, ceil_high k g hg, sum (pos (l * j)) k, up_mul c g, down_mul c g, add-mul (l' * j) (up c) g, add-mul (n' * t) (down c) g, shuffle l' l j g el, shuffle n' n t g en)

  high_divided : pos (n * t) ≤ℤ (pos (l * j) +ℤ k) → pos (n' * t) ≤ℤ (pos (l' * j) +ℤ floor_div k g)
  high_divided p =
      let f : ℤ = floor_div k g in
      let q : (n' * t + down f) * g < (l' * j + up f) * g + g =
      omega (arith, orders, floor_high k g hg, sum (pos (l * j)) k, sum (f *ℤ pos g) (pos g), up_mul f g, down_mul f g, add-mul (l' * j) (up f) g, add-mul (n' * t) (down f) g, shuffle l' l j g el, shuffle n' n t g en) in
      omega (arith, orders, sum (pos (l' * j)) f, next (n' * t + down f) (l' * j + up f) g q)

  high_back : pos (n' * t) ≤ℤ (pos (l' * j) +ℤ floor_div k g) → pos (n * t) ≤ℤ (pos (l * j) +ℤ k)
  high_back p =
      let f : ℤ = floor_div k g in
      let q : (n' * t + down f) * g ≤ (l' * j + up f) * g = mul-le-mul_right g (omega (arith, orders, sum (pos (l' * j)) f)) in
      omega (arith, orders, q, floor_low k g hg, sum (pos (l * j)) k, up_mul f g, down_mul f g, add-mul (l' * j) (up f) g, add-mul (n' * t) (down f) g, shuffle l' l j g el, shuffle n' n t g en)

module _ (k K : ℤ) (l n : ℕ) (h : 0 < n) where
  g : ℕ
  g = gcd_of l n

  el : l / gcd_of l n * gcd_of l n ≡ l
  el = div-mul_cancel (gcd_of l n) (gcd_is l n).left

  en : n / gcd_of l n * gcd_of l n ≡ n
  en = div-mul_cancel (gcd_of l n) (gcd_is l n).right

  pub normal_keeps : (b : ℕ → Bool) → Within b k K l n → Keeps b (normal_of k K l n)
  unfolding normal_of g
  normal_keeps b w =
      result_keeps _ _ _ _ b
      record {
        low = λ j t p. low_divided g (gcd_pos l n h) (l / g) (n / g) l n el en k j t (w.low j t p);
        high = λ j t p. high_divided g (gcd_pos l n h) (l / g) (n / g) l n el en K j t (w.high j t p);
      }

  pub keeps_normal : (b : ℕ → Bool) → Keeps b (normal_of k K l n) → Within b k K l n
  unfolding normal_of g
  keeps_normal b v =
      let w = keeps_result _ _ _ _ b v in
      record {
        low = λ j t p. low_back g (gcd_pos l n h) (l / g) (n / g) l n el en k j t (w.low j t p);
        high = λ j t p. high_back g (gcd_pos l n h) (l / g) (n / g) l n el en K j t (w.high j t p);
      }

  pub normal_l_is : (normal_of k K l n).l ≡ l / gcd_of l n
  unfolding normal_of
  normal_l_is = result_l _ _ _ _

  pub normal_n_is : (normal_of k K l n).n ≡ n / gcd_of l n
  unfolding normal_of
  normal_n_is = result_n _ _ _ _

  pub normal_normal : Normal (normal_of k K l n)
  normal_normal = ap₂ gcd_of normal_l_is normal_n_is ∙ gcd_coprime l n h

  pub normal_n_least : 1 ≤ (normal_of k K l n).n
  normal_n_least = subst (λ (x : ℕ). 1 ≤ x) (sym normal_n_is) (go (n / gcd_of l n) en)
    where
      go : (q : ℕ) → q * gcd_of l n ≡ n → 1 ≤ q
      go zero e = absurd (omega (arith, zero-mul (gcd_of l n)))
      go (suc q) e = omega arith

  pub normal_n_most : n ≤ l → (normal_of k K l n).n ≤ (normal_of k K l n).l
  normal_n_most m =
      let q : n / gcd_of l n * gcd_of l n ≤ l / gcd_of l n * gcd_of l n = omega (arith, el, en) in
      omega (arith, normal_l_is, normal_n_is, le_of_mul-le-mul_right q (gcd_pos l n h))

pub normal_rate_one : (k K : ℤ) (l n : ℕ) → (normal_of k K l n).l ≡ 1 → (normal_of k K l n).n ≡ 1 → pos 0 ≤ℤ (normal_of k K l n).k
unfolding normal_of
normal_rate_one k K l n = result_rate_one _ _ _ _
