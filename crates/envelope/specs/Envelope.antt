-- Envelopes and the rules of document 01 that make them. `Envelope` is the code's own struct: k and K are whole numbers, l and n naturals.
use Rattle.std.specs.Prelude.{◌≡◌, Bool, ◌&&◌, cond, ℕ, ◌-◌, ◌*◌, ◌/◌, ◌≤◌, ℤ, pos, ◌+ℤ◌, ◌-ℤ◌, ◌*ℤ◌, ◌≤ℤ◌, leb, eqb}
use Rattle.std.specs.Int.Signed.{le_z, lt_z}
use Rattle.whole.specs.Rounding.{floor_div, ceil_div}
use Rattle.whole.specs.Order.{larger}
use Rattle.whole.specs.Euclid.{gcd_of}
use Rattle.envelope.specs.declared.Envelope.{Envelope}
use Rattle.envelope.specs.Limits.{l_most, lower_least, lower_most, upper_least, upper_most}

-- k, K, l and n, as an envelope
abbrev pub numbers : ℤ → ℤ → ℕ → ℕ → Envelope
numbers k K l n = record { k = k; K = K; l = l; n = n }

-- "It is normal when l and n have no common factor above 1."
abbrev pub Normal : Envelope → Type 0
Normal e = gcd_of e.l e.n ≡ 1

-- l, k and K are within their limits
pub record Limits (e : Envelope) : Type 0 where
  pub l_within : e.l ≤ l_most
  pub k_least : lower_least ≤ℤ e.k
  pub k_most : e.k ≤ℤ lower_most
  pub K_least : upper_least ≤ℤ e.K
  pub K_most : e.K ≤ℤ upper_most

-- whether they are; else it is "l, k or K beyond the limits"
unfoldable pub within_limits : Envelope → Bool
within_limits e =
    le_z lower_least e.k && le_z e.k lower_most && le_z upper_least e.K && le_z e.K upper_most && leb e.l l_most

-- "K - k >= n - 1"
abbrev pub Room : Envelope → Type 0
Room e = pos (e.n - 1) ≤ℤ (e.K -ℤ e.k)

-- whether that is so
unfoldable pub has_room : Envelope → Bool
has_room e = le_z (pos (e.n - 1)) (e.K -ℤ e.k)

-- "A taken envelope also has 1 <= n <= l .." and "K - k >= n - 1"; where l = n = 1 "a taken envelope has k >= 0"
pub record Taken (e : Envelope) : Type 0 where
  pub normal : Normal e
  pub n_least : 1 ≤ e.n
  pub n_most : e.n ≤ e.l
  pub limits : Limits e
  pub room : Room e
  pub at_rate_one : e.l ≡ 1 → e.n ≡ 1 → pos 0 ≤ℤ e.k

-- "A stream can't start before position 0": whether "l = n = 1 and k below 0"
unfoldable pub before_start : ℤ → ℕ → ℕ → Bool
before_start k l n = eqb l 1 && eqb n 1 && lt_z k (pos 0)

-- what each rule below gives its four numbers to: "Whenever a node's result has l = n = 1 and k below 0, k becomes 0 before use."
unfoldable pub result_of : ℤ → ℤ → ℕ → ℕ → Envelope
result_of k K l n = cond (before_start k l n) (numbers (pos 0) K l n) (numbers k K l n)

-- "Declared: with g the greatest common divisor of l and n, divide both by g, k becomes k/g rounded up, K becomes K/g rounded down."
unfoldable pub normal_of : ℤ → ℤ → ℕ → ℕ → Envelope
normal_of k K l n =
    result_of (ceil_div k (gcd_of l n)) (floor_div K (gcd_of l n)) (l / gcd_of l n) (n / gcd_of l n)

-- "Not: k' = n - K, K' = the larger of 0 and l - n - k, l' = l, n' = l - n. Only where l > n."
unfoldable pub not_of : Envelope → Envelope
not_of e =
    result_of
    (pos e.n -ℤ e.K)
    (larger (pos 0) ((pos e.l -ℤ pos e.n) -ℤ e.k))
    e.l
    (e.l - e.n)

-- "On: with g the greatest common divisor of l1*l2 and n1*n2: l = l1*l2/g, n = n1*n2/g, k = (k1*n2 + k2*l1)/g rounded up,
-- K = (K1*n2 + K2*l1)/g rounded down."
unfoldable pub on_of : Envelope → Envelope → Envelope
on_of a b =
    normal_of
    (a.k *ℤ pos b.n +ℤ b.k *ℤ pos a.l)
    (a.K *ℤ pos b.n +ℤ b.K *ℤ pos a.l)
    (a.l * b.l)
    (a.n * b.n)
