-- K - k >= n - 1 says that some stream lies in a normal envelope: where it holds there is one, and where it fails there is none.
-- Assumes nothing.
use mathlib.Core.Path.{◌≡◌, refl, sym, ap, ◌∙◌}
use mathlib.Core.Logic.{◌⊎◌, inl, inr}
use mathlib.Core.Bool.{Bool, true, false}
use Prim.Native.Nat.{ℕ, zero, suc, ◌+◌, ◌-◌, ◌*◌, ◌≤◌, ◌<◌}
use native.Mathlib.Nat.{mul-suc, mul-add, mul-one, one-mul, mul-zero, mul-le-mul_right, add-zero, add-suc, lt_of_mul-lt-mul_left, mul_comm}
use native.Mathlib.Decide.{dec_le}
use native.Mathlib.Omega.{arith}
use lib.Dec.{leb}
use lib.IntN.{ℤ, pos, ◌+ℤ◌, ◌-ℤ◌}
use lib.Signed.{◌≤ℤ◌, ◌<ℤ◌}
use borrow.Author.Tests.{leb-true, leb-false, le-leb}
use Rattle.whole.proofs.Bridge.{up, down, sum, diff, orders}
use Rattle.whole.proofs.Order.{which}
use Rattle.whole.proofs.Euclid.{reaches}
use Rattle.envelope.specs.declared.Envelope.{Envelope}
use Rattle.envelope.specs.Stream.{Stream, value, ones, Position, Lies}
use Rattle.envelope.specs.Envelope.{Normal, Room}
use Rattle.envelope.proofs.Streams.{position}

-- two multiples of n next to each other: none lies strictly between
between : (n m t : ℕ) → n * m < n * t → n * t < n * suc m → ⊥
between n m t p q =
    let a : m < t = lt_of_mul-lt-mul_left n p in
    let b : t < suc m = lt_of_mul-lt-mul_left n q in
    omega arith

-- there is no stream in a normal envelope whose K - k is below n - 1. Some l*j + k is one more than a multiple of n, and the next multiple is past l*j + K
-- without room, K - k is below n - 1
no_room : (e : Envelope) → ¬ Room e → (e.K -ℤ e.k) <ℤ pos (e.n - 1)
no_room e full = go (dec_le (down z + (e.n - 1)) (up z))
  where
    z : ℤ
    z = e.K -ℤ e.k

    go : Dec (down z + (e.n - 1) ≤ up z) → z <ℤ pos (e.n - 1)
    go (yes p) = absurd (full (omega (arith, orders, p)))
    go (no f) = omega (arith, orders)

pub none_lies : (s : Stream) (e : Envelope) → 1 ≤ e.n → Normal e → ¬ Room e → Lies s e → ⊥
none_lies s e hn norm full w = go (reaches e.l e.n (up e.k + down e.k * (e.n - 1) + (e.n - 1)) hn norm)
  where
    h : (e.K -ℤ e.k) <ℤ pos (e.n - 1)
    h = no_room e full

    l : ℕ
    l = e.l

    n : ℕ
    n = e.n

    c : ℕ
    c = up e.k + down e.k * (n - 1) + (n - 1)

    -- n * m ≡ l*j + c: then l*j + k is n * (m - 1 - down k) + 1
    clash : (j m t : ℕ) → n * m ≡ l * j + c → (pos (l * j) +ℤ e.k) ≤ℤ pos (n * t) → pos (n * t) ≤ℤ (pos (l * j) +ℤ e.K) → ⊥
    clash j m t r low high =
        let d : ℕ = down e.k in
        let g : n ≡ suc (n - 1) = omega arith in
        let f : n * d ≡ d * (n - 1) + d = mul_comm n d ∙ ap (λ (i : ℕ). d * i) g ∙ mul-suc d (n - 1) in
        between n m (t + d + 1)
        (omega (arith, orders, f, r, sum (pos (l * j)) e.k, mul-add n (t + d) 1, mul-add n t d, mul-one n))
        (omega (arith, orders, f, r, h, diff e.K e.k, sum (pos (l * j)) e.K, mul-add n (t + d) 1, mul-add n t d, mul-one n, mul-suc n m))

    go : (j : ℕ) × (m : ℕ) × (n * m ≡ l * j + c) → ⊥
    go r =
        let q : (t : ℕ) × Position s.bit r.0 t = position s r.0 in
        clash r.0 r.1 q.0 r.2 (w.low r.0 q.0 q.1) (w.high r.0 q.0 q.1)

-- ---- and where K - k is at least n - 1 there is one: the stream that has a 1 whenever the lower edge lets it
module _ (e : Envelope) where
  -- how many of the first t are 1, and whether a 1 follows: l*j + k <= n*t
  fits : ℕ → ℕ → Bool
  fits j t = leb (e.l * j + up e.k) (e.n * t + down e.k)

  count : ℕ → ℕ
  count zero = 0
  count (suc t) = count t + value (fits (count t) t)

  early : ℕ → Bool
  early t = fits (count t) t

  ones_early : (t : ℕ) → ones early t ≡ count t
  unfolding ones count early
  ones_early zero = refl
  ones_early (suc t) = ap (λ (j : ℕ). j + value (fits (count t) t)) (ones_early t)

  count_one : (t : ℕ) → early t ≡ true → count (suc t) ≡ count t + 1
  unfolding count early
  count_one t x = ap (λ (b : Bool). count t + value b) x

  count_zero : (t : ℕ) → early t ≡ false → count (suc t) ≡ count t
  unfolding count early
  count_zero t x = ap (λ (b : Bool). count t + value b) x ∙ add-zero (count t)

  early_true : (t : ℕ) → early t ≡ true → e.l * count t + up e.k ≤ e.n * t + down e.k
  unfolding early fits
  early_true t x = leb-true _ _ x

  early_false : (t : ℕ) → early t ≡ false → e.n * t + down e.k < e.l * count t + up e.k
  unfolding early fits
  early_false t x = leb-false _ _ x

  early_when : (t : ℕ) → e.l * count t + up e.k ≤ e.n * t + down e.k → early t ≡ true
  unfolding early fits
  early_when t x = le-leb _ _ x

  -- from t on there is a 1, or the next m are 0
  wait : (t m : ℕ) → ((u : ℕ) × (t ≤ u) × (early u ≡ true)) ⊎ (count (t + m) ≡ count t)
  wait t zero = inr (ap count (add-zero t))
  wait t (suc m) = go (wait t m) (which (early (t + m)))
    where
      go : ((u : ℕ) × (t ≤ u) × (early u ≡ true)) ⊎ (count (t + m) ≡ count t) → (early (t + m) ≡ true) ⊎ (early (t + m) ≡ false) → ((u : ℕ) × (t ≤ u) × (early u ≡ true)) ⊎ (count (t + suc m) ≡ count t)
      go (inl r) x = inl r
      go (inr c) (inl x) = inl (t + m, omega arith, x)
      go (inr c) (inr x) = inr (ap count (add-suc t m) ∙ count_zero (t + m) x ∙ c)

module _ (e : Envelope) (hn : 1 ≤ e.n) (hl : e.n ≤ e.l) (hK : pos 0 ≤ℤ e.K) (room : pos (e.n - 1) ≤ℤ (e.K -ℤ e.k)) where
  pub earliest : Stream
  earliest = record { bit = early e; endless = λ t. go t (wait e t (e.l * count e t + up e.k)) }
    where
      go : (t : ℕ) → ((u : ℕ) × (t ≤ u) × (early e u ≡ true)) ⊎ (count e (t + (e.l * count e t + up e.k)) ≡ count e t) → (u : ℕ) × (t ≤ u) × (early e u ≡ true)
      go t (inl r) = r
      go t (inr c) =
          let m : ℕ = e.l * count e t + up e.k in
          (t + m, omega arith, early_when e (t + m) (omega (arith, ap (λ (i : ℕ). e.l * i) c, mul-le-mul_right (t + m) hn, one-mul (t + m))))

  -- the upper edge is kept to at each step
  edge : (t : ℕ) → e.n * t + down e.K ≤ e.l * count e t + up e.K
  unfolding count
  edge zero = omega (arith, orders, mul-zero e.n)
  edge (suc t) = go (which (early e t)) (edge t)
    where
      go : (early e t ≡ true) ⊎ (early e t ≡ false) → e.n * t + down e.K ≤ e.l * count e t + up e.K → e.n * suc t + down e.K ≤ e.l * count e (suc t) + up e.K
      go (inl x) h = omega (arith, mul-suc e.n t, ap (λ (i : ℕ). e.l * i) (count_one e t x), mul-add e.l (count e t) 1, mul-one e.l)
      go (inr x) h =
          omega (arith, orders, mul-suc e.n t, ap (λ (i : ℕ). e.l * i) (count_zero e t x), early_false e t x, diff e.K e.k)

  pub earliest_lies : Lies earliest e
  unfolding earliest
  earliest_lies = record { low = low_at; high = high_at }
    where
      same : (j t : ℕ) → Position earliest.bit j t → count e t ≡ j
      same j t p = sym (ones_early e t) ∙ p.before

      low_at : (j t : ℕ) → Position earliest.bit j t → (pos (e.l * j) +ℤ e.k) ≤ℤ pos (e.n * t)
      low_at j t p = omega (arith, orders, early_true e t p.is_one, sum (pos (e.l * j)) e.k, ap (λ (i : ℕ). e.l * i) (same j t p))

      high_at : (j t : ℕ) → Position earliest.bit j t → pos (e.n * t) ≤ℤ (pos (e.l * j) +ℤ e.K)
      high_at j t p = omega (arith, orders, edge t, sum (pos (e.l * j)) e.K, ap (λ (i : ℕ). e.l * i) (same j t p))
