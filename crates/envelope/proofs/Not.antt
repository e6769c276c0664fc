-- Not: exchanging 0 and 1 keeps to the envelope that the rule gives.
-- Assumes nothing.
use mathlib.Core.Path.{◌≡◌, refl, sym, ap, ◌∙◌}
use mathlib.Core.Logic.{◌⊎◌, inl, inr}
use mathlib.Core.Bool.{Bool, true, false, not}
use Prim.Native.Nat.{ℕ, zero, suc, ◌+◌, ◌-◌, ◌*◌, ◌≤◌, ◌<◌}
use native.Mathlib.Nat.{mul-le-mul_left, mul-le-mul_right, mul-suc, mul-add, add-mul, suc-mul, add-zero, add-suc}
use native.Mathlib.Omega.{arith}
use lib.IntN.{ℤ, pos, ◌+ℤ◌, ◌-ℤ◌}
use lib.Signed.{◌≤ℤ◌}
use Rattle.whole.specs.Order.{larger}
use Rattle.whole.proofs.Bridge.{down, sum, diff, orders}
use Rattle.whole.proofs.Order.{which, larger_left, larger_right}
use Rattle.envelope.specs.declared.Envelope.{Envelope}
use Rattle.envelope.specs.Stream.{Stream, ones, Position, Keeps, Lies, Has, not_bits}
use Rattle.envelope.specs.Envelope.{not_of}
use Rattle.envelope.proofs.Counts.{ones_one, ones_zero, ones_none, earlier}
use Rattle.envelope.proofs.Streams.{later}
use Rattle.std.proofs.lemmas.Bool.{not-true}
use Rattle.envelope.proofs.Result.{result_keeps}

-- the 0s and the 1s of the first t are t
pub zeros_ones : (b : ℕ → Bool) (t : ℕ) → ones (not_bits b) t + ones b t ≡ t
zeros_ones b zero = omega (arith, ones_none (not_bits b), ones_none b)
zeros_ones b (suc t) = go (which (b t)) (zeros_ones b t)
  where
    go : (b t ≡ true) ⊎ (b t ≡ false) → ones (not_bits b) t + ones b t ≡ t → ones (not_bits b) (suc t) + ones b (suc t) ≡ suc t
    go (inl e) h = omega (arith, ones_one b t e, ones_zero (not_bits b) t (ap not e))
    go (inr e) h = omega (arith, ones_zero b t e, ones_one (not_bits b) t (ap not e))

-- from t on there is a 0, or the next m are 1
run : (b : ℕ → Bool) (t m : ℕ) → ((u : ℕ) × (t ≤ u) × (b u ≡ false)) ⊎ (ones b (t + m) ≡ ones b t + m)
run b t zero = inr (ap (ones b) (add-zero t) ∙ sym (add-zero (ones b t)))
run b t (suc m) = go (run b t m) (which (b (t + m)))
  where
    go : ((u : ℕ) × (t ≤ u) × (b u ≡ false)) ⊎ (ones b (t + m) ≡ ones b t + m) → (b (t + m) ≡ true) ⊎ (b (t + m) ≡ false) → ((u : ℕ) × (t ≤ u) × (b u ≡ false)) ⊎ (ones b (t + suc m) ≡ ones b t + suc m)
    go (inl r) x = inl r
    go (inr e) (inl x) = inr (omega (arith, ap (ones b) (add-suc t m), ones_one b (t + m) x))
    go (inr e) (inr x) = inl (t + m, omega arith, x)

-- a stream in an envelope with l above n has endlessly many 0s too
pub zero_from : (s : Stream) (e : Envelope) → e.n < e.l → Lies s e → (t : ℕ) → (u : ℕ) × (t ≤ u) × (s.bit u ≡ false)
zero_from s e h p t = go (run s.bit t m) (which (s.bit (t + m)))
  where
    m : ℕ
    m = e.n * t + down e.k + 1

    -- a 1 with m others in a row before it would be too early
    clash : (l n t m o : ℕ) (k : ℤ) → n < l → m ≡ n * t + down k + 1 → (pos (l * (o + m)) +ℤ k) ≤ℤ pos (n * (t + m)) → ⊥
    clash l n t m o k h c p =
        omega (arith, orders, sum (pos (l * (o + m))) k, mul-add l o m, mul-add n t m, mul-le-mul_right m h, suc-mul n m)

    go : ((u : ℕ) × (t ≤ u) × (s.bit u ≡ false)) ⊎ (ones s.bit (t + m) ≡ ones s.bit t + m) → (s.bit (t + m) ≡ true) ⊎ (s.bit (t + m) ≡ false) → (u : ℕ) × (t ≤ u) × (s.bit u ≡ false)
    go (inl r) x = r
    go (inr o) (inl x) =
        absurd (clash e.l e.n t m (ones s.bit t) e.k h refl (p.low (ones s.bit t + m) (t + m) (record { is_one = x; before = o })))
    go (inr o) (inr x) = (t + m, omega arith, x)

-- so exchanging 0 and 1 gives a stream
pub not_stream : (s : Stream) (e : Envelope) → e.n < e.l → Lies s e → (r : Stream) × Has r (not_bits s.bit)
not_stream s e h p = (record { bit = not_bits s.bit; endless = λ t. turn t (zero_from s e h p t) }, λ t. refl)
  where
    turn : (t : ℕ) → (u : ℕ) × (t ≤ u) × (s.bit u ≡ false) → (u : ℕ) × (t ≤ u) × (not_bits s.bit u ≡ true)
    turn t r = (r.0, r.1, ap not r.2)

pub not_keeps : (s : Stream) (e : Envelope) → e.n < e.l → Lies s e → Keeps (not_bits s.bit) (not_of e)
unfolding not_of
not_keeps s e h p = result_keeps _ _ _ _ (not_bits s.bit) (record { low = low_at; high = high_at })
  where
    l : ℕ
    l = e.l

    n : ℕ
    n = e.n

    K' : ℤ
    K' = larger (pos 0) ((pos l -ℤ pos n) -ℤ e.k)

    -- (l - n) * t is l * t less n * t
    rest : (t : ℕ) → (l - n) * t + n * t ≡ l * t
    rest t =
        let d : l - n + n ≡ l = omega arith in
        sym (add-mul (l - n) n t) ∙ ap (λ (i : ℕ). i * t) d

    low_at : (j t : ℕ) → Position (not_bits s.bit) j t → (pos (l * j) +ℤ (pos n -ℤ e.K)) ≤ℤ pos ((l - n) * t)
    low_at j t q =
        let o : ℕ = ones s.bit t in
        let z : s.bit t ≡ false = not-true (s.bit t) q.is_one in
        let x = later s (suc t) o (omega (arith, ones_zero s.bit t z)) in
        let c : j + o ≡ t = ap (λ (i : ℕ). i + o) (sym q.before) ∙ zeros_ones s.bit t in
        let y : pos (n * x.0) ≤ℤ (pos (l * o) +ℤ e.K) = p.high o x.0 x.2 in
        omega (arith, orders, y, sum (pos (l * o)) e.K, sum (pos (l * j)) (pos n -ℤ e.K), diff (pos n) e.K, mul-suc n t, mul-le-mul_left n x.1, mul-add l j o, ap (λ (i : ℕ). l * i) c, rest t)

    high_at : (j t : ℕ) → Position (not_bits s.bit) j t → pos ((l - n) * t) ≤ℤ (pos (l * j) +ℤ K')
    high_at j t q = go (ones s.bit t) refl
      where
        c : j + ones s.bit t ≡ t
        c = ap (λ (i : ℕ). i + ones s.bit t) (sym q.before) ∙ zeros_ones s.bit t

        go : (o : ℕ) → ones s.bit t ≡ o → pos ((l - n) * t) ≤ℤ (pos (l * j) +ℤ K')
        go zero d =
            let f : j ≡ t = omega (arith, c) in
            omega (arith, orders, larger_left (pos 0) ((pos l -ℤ pos n) -ℤ e.k), sum (pos (l * j)) K', ap (λ (i : ℕ). l * i) f, rest t)
        go (suc o) d =
            let x = earlier s.bit t o (omega arith) in
            let y : (pos (l * o) +ℤ e.k) ≤ℤ pos (n * x.0) = p.low o x.0 (record { is_one = x.2; before = x.3 }) in
            let f : j + suc o ≡ t = omega (arith, c) in
            omega (arith, orders, y, sum (pos (l * o)) e.k, larger_right (pos 0) ((pos l -ℤ pos n) -ℤ e.k), sum (pos (l * j)) K', diff (pos l -ℤ pos n) e.k, diff (pos l) (pos n), mul-suc n x.0, mul-le-mul_left n x.1, mul-add l j (suc o), mul-suc l o, ap (λ (i : ℕ). l * i) f, rest t)
