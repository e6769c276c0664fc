-- Words: u(v) is a stream where v has a 1, and it keeps to the envelope that the rule gives.
-- Assumes nothing.
use mathlib.Core.Path.{◌≡◌, refl, sym, ap, ◌∙◌, subst}
use mathlib.Core.Logic.{◌⊎◌, inl, inr}
use mathlib.Core.Bool.{Bool, true, false}
use mathlib.Core.List.{List, [], ◌∷◌}
use Prim.Native.Nat.{ℕ, zero, suc, ◌+◌, ◌-◌, ◌*◌, ◌/◌, ◌≤◌, ◌<◌}
use native.Mathlib.Nat.{add-zero, add-suc, mul-add, mul_comm, mul_assoc, mul-one, mul-le-mul_left, zero-mul, suc-mul, div-mul_cancel}
use native.Mathlib.Decide.{dec_lt}
use native.Mathlib.Omega.{arith}
use lib.IntN.{ℤ, pos, ◌+ℤ◌, ◌-ℤ◌}
use lib.Signed.{◌≤ℤ◌}
use lib.ListN.{length}
use Rattle.whole.specs.Euclid.{gcd_of}
use Rattle.whole.proofs.Bridge.{sum, diff, orders}
use Rattle.whole.proofs.Order.{which}
use Rattle.whole.proofs.Euclid.{gcd_is}
use Rattle.envelope.specs.Stream.{Stream, ones, Position, Keeps, Has}
use Rattle.envelope.specs.Word.{ones_in, word_bit, smallest, largest, offsets, word_of}
use Rattle.envelope.proofs.Counts.{ones_one, ones_zero, ones_apart, earlier}
use Rattle.envelope.proofs.Result.{result_keeps}
use Rattle.envelope.proofs.Offsets.{In, Between, in_between, offset, in_offsets}
use Rattle.envelope.proofs.WordBits.{turns, turn_ones}

-- ---- a run that from U on repeats every P, with m 1s in each P
module _ (b : ℕ → Bool) (U P m : ℕ) (again : (t : ℕ) → U ≤ t → b (t + P) ≡ b t) (one : ones b (U + P) ≡ ones b U + m) where
  shift_by : (i : ℕ) → ones b (U + i + P) ≡ ones b (U + i) + m
  shift_by zero = ap (λ (x : ℕ). ones b (x + P)) (add-zero U) ∙ one ∙ ap (λ (x : ℕ). ones b x + m) (sym (add-zero U))
  shift_by (suc i) = go (which (b (U + i))) (shift_by i)
    where
      left : ones b (U + suc i + P) ≡ ones b (suc (U + i + P))
      left =
          let e : U + suc i + P ≡ suc (U + i + P) = omega arith in
          ap (ones b) e

      right : ones b (U + suc i) ≡ ones b (suc (U + i))
      right = ap (ones b) (add-suc U i)

      same : b (U + i + P) ≡ b (U + i)
      same = again (U + i) (omega arith)

      go : (b (U + i) ≡ true) ⊎ (b (U + i) ≡ false) → ones b (U + i + P) ≡ ones b (U + i) + m → ones b (U + suc i + P) ≡ ones b (U + suc i) + m
      go (inl x) h = omega (arith, left, right, h, ones_one b (U + i) x, ones_one b (U + i + P) (same ∙ x))
      go (inr x) h = omega (arith, left, right, h, ones_zero b (U + i) x, ones_zero b (U + i + P) (same ∙ x))

  shift : (t : ℕ) → U ≤ t → ones b (t + P) ≡ ones b t + m
  shift t h =
      let e : U + (t - U) ≡ t = omega arith in
      subst (λ (x : ℕ). ones b (x + P) ≡ ones b x + m) e (shift_by (t - U))

  -- every offset is one of those of the first U + P
  all_offsets : 0 < P → (l n : ℕ) → n * P ≡ l * m → (f t : ℕ) → t < f → b t ≡ true → In (offset b l n t) (offsets b l n (U + P))
  unfolding offset
  all_offsets hP l n r zero t h e = absurd (omega arith)
  all_offsets hP l n r (suc f) t h e = go (dec_lt t (U + P)) (λ x y. all_offsets hP l n r f (t - P) x y)
    where
      back : U + P ≤ t → offset b l n (t - P) ≡ offset b l n t
      back p =
          let u : ℕ = t - P in
          let d : u + P ≡ t = omega arith in
          let o : ones b t ≡ ones b u + m = sym (ap (ones b) d) ∙ shift u (omega arith) in
          omega (arith, orders, diff (pos (n * u)) (pos (l * ones b u)), diff (pos (n * t)) (pos (l * ones b t)), ap (λ (x : ℕ). l * x) o, mul-add l (ones b u) m, ap (λ (x : ℕ). n * x) d, mul-add n u P, r)

      bit_back : U + P ≤ t → b (t - P) ≡ true
      bit_back p =
          let d : t - P + P ≡ t = omega arith in
          sym (again (t - P) (omega arith)) ∙ ap b d ∙ e

      not_below : ¬ (t < U + P) → U + P ≤ t
      not_below g = omega arith

      go : Dec (t < U + P) → (t - P < f → b (t - P) ≡ true → In (offset b l n (t - P)) (offsets b l n (U + P))) → In (offset b l n t) (offsets b l n (U + P))
      go (yes p) ih = in_offsets b l n (U + P) t p e
      go (no g) ih = subst (λ (z : ℤ). In z (offsets b l n (U + P))) (back (not_below g)) (ih (omega arith) (bit_back (not_below g)))

  -- a 1 in the first turn comes again in each
  each : (q i : ℕ) → U ≤ q → b q ≡ true → b (q + i * P) ≡ true
  each q zero h e = ap b (omega (arith, zero-mul P)) ∙ e
  each q (suc i) h e =
      let d : q + suc i * P ≡ q + i * P + P = omega (arith, suc-mul i P) in
      ap b d ∙ again (q + i * P) (omega arith) ∙ each q i h e

-- ---- u(v), where v has a 1
module _ (u v : List ℕ) (hm : 0 < ones_in v) where
  period_some : 0 < length v
  unfolding ones_in
  period_some = go v hm
    where
      go : (xs : List ℕ) → 0 < ones_in xs → 0 < length xs
      go [] h = absurd (omega arith)
      go (x ∷ xs) h = omega arith

  pub word_stream : (s : Stream) × Has s (word_bit u v)
  word_stream = (record { bit = word_bit u v; endless = more }, λ t. refl)
    where
      U : ℕ
      U = length u

      b : ℕ → Bool
      b = word_bit u v

      found : (q : ℕ) × (q < U + length v) × (b q ≡ true) × (ones b q ≡ ones b U)
      found = earlier b (U + length v) (ones b U) (omega (arith, turn_ones u v))

      past : U ≤ found.0
      past = go (dec_lt found.0 U)
        where
          go : Dec (found.0 < U) → U ≤ found.0
          go (yes p) = absurd (omega (arith, ones_apart b found.0 U found.2 p, found.3))
          go (no f) = omega arith

      more : (t : ℕ) → (w : ℕ) × (t ≤ w) × (b w ≡ true)
      more t =
          (found.0 + t * length v, omega (arith, mul-le-mul_left t period_some, mul-one t), each b U (length v) (ones_in v) (turns u v) (turn_ones u v) found.0 t past found.2)

  pub word_keeps : Keeps (word_bit u v) (word_of u v)
  unfolding word_of offset Between
  word_keeps = result_keeps _ _ _ _ (word_bit u v) (record { low = low_at; high = high_at })
    where
      b : ℕ → Bool
      b = word_bit u v

      P : ℕ
      P = length v

      m : ℕ
      m = ones_in v

      g : ℕ
      g = gcd_of P m

      l : ℕ
      l = P / g

      n : ℕ
      n = m / g

      rate : n * P ≡ l * m
      rate =
          ap (λ (x : ℕ). n * x) (sym (div-mul_cancel g (gcd_is P m).left)) ∙ sym (mul_assoc n l g) ∙ ap (λ (x : ℕ). x * g) (mul_comm n l)
          ∙ mul_assoc l n g ∙ ap (λ (x : ℕ). l * x) (div-mul_cancel g (gcd_is P m).right)

      all : (t : ℕ) → b t ≡ true → Between (offsets b l n (length u + P)) (offset b l n t)
      all t e = in_between (all_offsets b (length u) P m (turns u v) (turn_ones u v) period_some l n rate (suc t) t (omega arith) e)

      low_at : (j t : ℕ) → Position (word_bit u v) j t → (pos (l * j) +ℤ smallest (offsets b l n (length u + P))) ≤ℤ pos (n * t)
      low_at j t p =
          let s : ℤ = smallest (offsets b l n (length u + P)) in
          let h : s ≤ℤ (pos (n * t) -ℤ pos (l * ones b t)) = (all t p.is_one).0 in
          omega (arith, orders, h, sum (pos (l * j)) s, diff (pos (n * t)) (pos (l * ones b t)), ap (λ (x : ℕ). l * x) p.before)

      high_at : (j t : ℕ) → Position (word_bit u v) j t → pos (n * t) ≤ℤ (pos (l * j) +ℤ largest (offsets b l n (length u + P)))
      high_at j t p =
          let s : ℤ = largest (offsets b l n (length u + P)) in
          let h : (pos (n * t) -ℤ pos (l * ones b t)) ≤ℤ s = (all t p.is_one).1 in
          omega (arith, orders, h, sum (pos (l * j)) s, diff (pos (n * t)) (pos (l * ones b t)), ap (λ (x : ℕ). l * x) p.before)
