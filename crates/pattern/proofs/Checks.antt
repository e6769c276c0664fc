-- What "check" answers: inside exactly for the beginnings of endless streams.
-- Assumes nothing.
use Prim.Native.Nat.{ℕ, zero, suc, ◌≤◌, ◌<◌}
use native.Mathlib.Nat.{le_refl, not-suc-le-zero, le_of_suc-le-suc}
use native.Mathlib.Omega.{arith}
use mathlib.Core.Path.{◌≡◌, refl, sym, ap, ◌∙◌}
use mathlib.Core.Logic.{◌↔◌}
use mathlib.Core.Bool.{Bool, true, false, cond, false≢true}
use mathlib.Core.List.{List, [], ◌∷◌}
use lib.ListN.{length, get_or, take}
use lib.Dec.{ltb, leb}
use borrow.Author.Tests.{ltb-true, ltb-false, leb-false, le-ltb, le-leb}
use Rattle.std.specs.Prelude.{Result, Ok}
use Rattle.std.proofs.lemmas.List.Sums.{prefix_len_stops}
use Rattle.reply.specs.declared.Cause.TheVariants.{NoEnvelope, LongPattern, NotABit, Outside}
use Rattle.reply.specs.declared.Refusal.{Refusal}
use Rattle.reply.specs.Refusal.{refused_for}
use Rattle.envelope.specs.declared.Envelope.{Envelope}
use Rattle.envelope.specs.Envelope.{Taken}
use Rattle.envelope.specs.Inner.Tests.{is_taken}
use Rattle.envelope.proofs.Tests.{is_true, to_t, is_taken_lem, taken_is}
use Rattle.pattern.specs.declared.Answer.{Answer}
use Rattle.pattern.specs.Step.{one_may, zero_may}
use Rattle.judging.specs.Bytes.{longest, plain}
use Rattle.pattern.specs.Pattern.{after, may, Inside, passed}
use Rattle.pattern.specs.Beginning.{Begins}
use Rattle.pattern.specs.Answer.{steps_of, check_answer}
use Rattle.pattern.proofs.Binary.{Bits}
use Rattle.pattern.proofs.Beginnings.{begins_in, in_begins}

-- ---- what is inside passes every step, and is of bits
module _ (z o : ℕ → ℕ → Bool) where
  inside_passed : (p : List ℕ) (i j : ℕ) → Inside z o i j p → passed z o i j p ≡ length p
  inside_passed [] i j h = refl
  inside_passed (b ∷ p) i j h = rw (is_true (may z o i j b) h.0) (ap suc (inside_passed p (suc i) (after j b) h.1))

  passed_inside : (p : List ℕ) (i j : ℕ) → length p ≤ passed z o i j p → Inside z o i j p
  passed_inside [] i j h = tt
  passed_inside (b ∷ p) i j h = go (may z o i j b) refl (passed_inside p (suc i) (after j b))
    where
      go : (t : Bool) → may z o i j b ≡ t → (length p ≤ passed z o (suc i) (after j b) p → Inside z o (suc i) (after j b) p) → Inside z o i j (b ∷ p)
      go true q ih = (to_t (may z o i j b) q, ih (le_of_suc-le-suc (rw q at h)))
      go false q ih = absurd (not-suc-le-zero (rw q at h))

  pub inside_bits : (p : List ℕ) (i j : ℕ) → Inside z o i j p → Bits p
  inside_bits [] i j h = tt
  inside_bits (zero ∷ p) i j h = (omega arith, inside_bits p (suc i) j h.1)
  inside_bits (suc zero ∷ p) i j h = (omega arith, inside_bits p (suc i) (suc j) h.1)
  inside_bits (suc (suc b) ∷ p) i j h = absurd h.0

  -- the steps before the first forbidden one are inside, and with it they are not
  pub passed_take : (p : List ℕ) (i j : ℕ) → Inside z o i j (take (passed z o i j p) p)
  passed_take [] i j = tt
  passed_take (b ∷ p) i j = go (may z o i j b) refl (passed_take p (suc i) (after j b))
    where
      go : (t : Bool) → may z o i j b ≡ t → Inside z o (suc i) (after j b) (take (passed z o (suc i) (after j b) p) p) → Inside z o i j (take (passed z o i j (b ∷ p)) (b ∷ p))
      go true q ih = rw q (to_t (may z o i j b) q, ih)
      go false q ih = rw q tt

  pub passed_stops : (p : List ℕ) (i j : ℕ) → passed z o i j p < length p → Inside z o i j (take (suc (passed z o i j p)) p) → ⊥
  passed_stops [] i j h v = not-suc-le-zero h
  passed_stops (b ∷ p) i j h v = go (may z o i j b) refl (passed_stops p (suc i) (after j b))
    where
      go : (t : Bool) → may z o i j b ≡ t → (passed z o (suc i) (after j b) p < length p → Inside z o (suc i) (after j b) (take (suc (passed z o (suc i) (after j b) p)) p) → ⊥) → ⊥
      go true q ih = ih (le_of_suc-le-suc (rw q at h)) (rw q at v).1
      go false q ih = absurd (rw q at v.0)

-- the first byte that is neither 0 nor 1
pub plain_stops : (p : List ℕ) → plain p < length p → 1 < get_or p (plain p) 0
plain_stops p h = leb-false (get_or p (plain p) 0) 1 (prefix_len_stops (λ (b : ℕ). leb b 1) p 0 h)

bits_plain : (p : List ℕ) → Bits p → plain p ≡ length p
bits_plain [] h = refl
bits_plain (b ∷ p) h = rw (le-leb b 1 h.0, bits_plain p h.1) (omega arith)

module _ (e : Envelope) where
  abbrev z : ℕ → ℕ → Bool
  z = zero_may e

  abbrev o : ℕ → ℕ → Bool
  o = one_may e

  -- ---- what "check" answers
  pub record Passing (p : List ℕ) : Type 0 where
    pub taken : Taken e
    pub short : length p ≤ longest
    pub inside : Inside z o 0 0 p

  pub inside_check : (p : List ℕ) → Passing p → check_answer e p ≡ Ok Answer.Inside
  unfolding check_answer
  inside_check p h =
      let plain_all : plain p ≡ length p = bits_plain p (inside_bits z o p 0 0 h.inside) in
      let all : steps_of e p ≡ length p = inside_passed z o p 0 0 h.inside in
      rw (taken_is e h.taken, le-ltb longest (length p) h.short, le-ltb (plain p) (length p) (rw plain_all (le_refl (length p))), le-ltb (steps_of e p) (length p) (rw all (le_refl (length p))))

  -- each answer, with what it says
  pub data Checked (p : List ℕ) : Result Answer Refusal → Type 0 where
    is_inside : Passing p → Checked p (Ok Answer.Inside)
    no_taken_envelope : (Taken e → ⊥) → Checked p (refused_for NoEnvelope 0)
    too_long : Taken e → longest < length p → Checked p (refused_for LongPattern 0)
    no_bit : Taken e → length p ≤ longest → plain p < length p → Checked p (refused_for NotABit (plain p))
    forbidden : Taken e → length p ≤ longest → length p ≤ plain p → steps_of e p < length p → Checked p (refused_for Outside (steps_of e p))

  pub checked : (p : List ℕ) → Checked p (check_answer e p)
  unfolding check_answer
  checked p = go (is_taken e) (ltb longest (length p)) (ltb (plain p) (length p)) (ltb (steps_of e p) (length p)) refl refl refl refl
    where
      go : (a b c d : Bool) → is_taken e ≡ a → ltb longest (length p) ≡ b → ltb (plain p) (length p) ≡ c → ltb (steps_of e p) (length p) ≡ d → Checked p (cond a (cond b (refused_for LongPattern 0) (cond c (refused_for NotABit (plain p)) (cond d (refused_for Outside (steps_of e p)) (Ok Answer.Inside)))) (refused_for NoEnvelope 0))
      go false b c d ea eb ec ed = no_taken_envelope (λ t. false≢true (sym ea ∙ taken_is e t))
      go true true c d ea eb ec ed = too_long (is_taken_lem e ea) (ltb-true longest (length p) eb)
      go true false true d ea eb ec ed = no_bit (is_taken_lem e ea) (ltb-false longest (length p) eb) (ltb-true (plain p) (length p) ec)
      go true false false true ea eb ec ed = forbidden (is_taken_lem e ea) (ltb-false longest (length p) eb) (ltb-false (plain p) (length p) ec) (ltb-true (steps_of e p) (length p) ed)
      go true false false false ea eb ec ed =
          is_inside (record { taken = is_taken_lem e ea; short = ltb-false longest (length p) eb; inside = passed_inside z o p 0 0 (ltb-false (steps_of e p) (length p) ed) })

  pub check_inside : (p : List ℕ) → check_answer e p ≡ Ok Answer.Inside → Passing p
  check_inside p h = go (check_answer e p) (checked p) h
    where
      go : (a : Result Answer Refusal) → Checked p a → a ≡ Ok Answer.Inside → Passing p
      go _ (is_inside v) q = v
      go _ (no_taken_envelope f) q = absurd (cc)
      go _ (too_long t k) q = absurd (cc)
      go _ (no_bit t k l) q = absurd (cc)
      go _ (forbidden t k b l) q = absurd (cc)

  pub inside_is : Taken e → (p : List ℕ) → (check_answer e p ≡ Ok Answer.Inside) ↔ ((length p ≤ longest) × Begins e p)
  inside_is t p = (
    λ h. (let v = check_inside p h in (v.short, in_begins e t p v.inside)),
    λ h. inside_check p (record { taken = t; short = h.0; inside = begins_in e p h.1 }),
  )
