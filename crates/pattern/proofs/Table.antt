-- Each refusal of "check", "first" and "next" is given exactly when the table says, at its place.
-- Assumes nothing.
use Prim.Native.Nat.{ℕ, zero, suc, ◌≤◌, ◌<◌}
use native.Mathlib.Nat.{not-suc-le-zero, le_of_suc-le-suc}
use native.Mathlib.Omega.{arith}
use mathlib.Core.Path.{◌≡◌, refl, sym, ap, ◌∙◌}
use mathlib.Core.Bool.{Bool, true, false, cond, false≢true}
use mathlib.Core.List.{List, [], ◌∷◌}
use mathlib.Core.Option.{Option, none, some}
use lib.ListN.{length, get_or, take}
use lib.Dec.{ltb, leb}
use borrow.Author.Tests.{ltb-true, lt-ltb, le-ltb, le-leb, lt-leb}
use Rattle.std.specs.Prelude.{Result, Ok, Err}
use Rattle.std.proofs.lemmas.List.Sums.{prefix_len_is}
use Rattle.reply.specs.declared.Cause.TheVariants.{NoEnvelope, LongPattern}
use Rattle.reply.specs.declared.Refusal.{Refusal}
use Rattle.reply.specs.Refusal.{refused_for, RefusedWith}
use Rattle.envelope.specs.declared.Envelope.{Envelope}
use Rattle.envelope.specs.Envelope.{Taken}
use Rattle.envelope.specs.Inner.Tests.{is_taken}
use Rattle.envelope.proofs.Tests.{is_true, to_t, is_taken_lem, taken_is}
use Rattle.pattern.specs.declared.Answer.{Answer}
use Rattle.pattern.specs.Step.{one_may, zero_may}
use Rattle.judging.specs.Bytes.{longest, plain}
use Rattle.pattern.specs.Pattern.{after, may, Inside, passed}
use Rattle.pattern.specs.Answer.{steps_of, check_answer, first_answer, next_of, done_or_last, if_inside, next_answer}
use Rattle.pattern.specs.Table.{Unfit, Refuses}
use Rattle.pattern.specs.Walk.{PatternRefusals}
use Rattle.judging.proofs.Loops.{plain_before}
use Rattle.pattern.proofs.Checks.{Checked, checked, plain_stops, passed_take, passed_stops}

-- ---- the first byte that is no bit, and the first forbidden step, are where they are found
plain_is : (p : List ℕ) (place : ℕ) → place < length p → 1 < get_or p place 0 → ((t : ℕ) → t < place → get_or p t 0 ≤ 1) → plain p ≡ place
plain_is p place lt over before =
    prefix_len_is (λ (b : ℕ). leb b 1) p place 0 (omega arith) (λ t h. le-leb (get_or p t 0) 1 (before t h)) (λ h. lt-leb (get_or p place 0) 1 over)

all_plain : (p : List ℕ) → ((t : ℕ) → t < length p → get_or p t 0 ≤ 1) → plain p ≡ length p
all_plain p bits =
    prefix_len_is (λ (b : ℕ). leb b 1) p (length p) 0 (omega arith) (λ t h. le-leb (get_or p t 0) 1 (bits t h)) (λ h. absurd (omega arith))

module _ (z o : ℕ → ℕ → Bool) where
  no_step : (p : List ℕ) (i j : ℕ) → Inside z o i j (take zero p)
  no_step [] i j = tt
  no_step (b ∷ p) i j = tt

  passed_is : (p : List ℕ) (i j place : ℕ) → place < length p → Inside z o i j (take place p) → (Inside z o i j (take (suc place) p) → ⊥) → passed z o i j p ≡ place
  passed_is [] i j place lt ins out = absurd (not-suc-le-zero lt)
  passed_is (b ∷ p) i j zero lt ins out = go (may z o i j b) refl
    where
      go : (t : Bool) → may z o i j b ≡ t → cond t (suc (passed z o (suc i) (after j b) p)) zero ≡ zero
      go true q = absurd (out (to_t (may z o i j b) q, no_step p (suc i) (after j b)))
      go false q = refl
  passed_is (b ∷ p) i j (suc place) lt ins out =
      rw (is_true (may z o i j b) ins.0) (ap suc (passed_is p (suc i) (after j b) place (le_of_suc-le-suc lt) ins.1 (λ h. out (ins.0, h))))

module _ (e : Envelope) (p : List ℕ) where
  -- ---- check
  listed : (number place : ℕ) (a : Result Answer Refusal) → Checked e p a → RefusedWith a number place → Refuses e p number place
  listed number place _ (Checked.is_inside v) r = absurd r
  listed number place _ (Checked.no_taken_envelope f) r = rw (← r.0, ← r.1) (Refuses.unfit (Unfit.no_taken_envelope f))
  listed number place _ (Checked.too_long t h) r = rw (← r.0, ← r.1) (Refuses.unfit (Unfit.too_long t h))
  listed number place _ (Checked.no_bit t k l) r = rw (← r.0, ← r.1) (Refuses.no_bit t k l (plain_stops p l) (plain_before p))
  listed number place _ (Checked.forbidden t k b l) r =
      rw (← r.0, ← r.1)
      (Refuses.forbidden t k (λ i h. plain_before p i (omega arith)) l (passed_take (zero_may e) (one_may e) p 0 0) (passed_stops (zero_may e) (one_may e) p 0 0 l))

  untaken : {A : Type 0} (x y : A) → (Taken e → ⊥) → cond (is_taken e) x y ≡ y
  untaken x y f = go (is_taken e) refl
    where
      go : (b : Bool) → is_taken e ≡ b → cond b x y ≡ y
      go true q = absurd (f (is_taken_lem e q))
      go false q = refl

  given : {number place : ℕ} → Refuses e p number place → RefusedWith (check_answer e p) number place
  unfolding check_answer
  given (Refuses.unfit (Unfit.no_taken_envelope f)) = rw (untaken _ _ f) (refl, refl)
  given (Refuses.unfit (Unfit.too_long t h)) = rw (taken_is e t, lt-ltb longest (length p) h) (refl, refl)
  given (Refuses.no_bit {place = place} t short lt over before) =
      let is : plain p ≡ place = plain_is p place lt over before in
      rw (taken_is e t, le-ltb longest (length p) short, lt-ltb (plain p) (length p) (rw is lt)) (refl, is)
  given (Refuses.forbidden {place = place} t short bits lt ins out) =
      let all : plain p ≡ length p = all_plain p bits in
      let is : steps_of e p ≡ place = passed_is (zero_may e) (one_may e) p 0 0 place lt ins out in
      rw (taken_is e t, le-ltb longest (length p) short, le-ltb (plain p) (length p) (omega arith), lt-ltb (steps_of e p) (length p) (rw is lt)) (refl, is)

  -- ---- first
  first_listed : (number place : ℕ) → RefusedWith (first_answer e p) number place → Unfit e p number place
  unfolding first_answer
  first_listed number place r = go (is_taken e) (ltb longest (length p)) refl refl r
    where
      go : (a b : Bool) → is_taken e ≡ a → ltb longest (length p) ≡ b → RefusedWith (cond a (cond b (refused_for LongPattern 0) (Ok Answer.Done)) (refused_for NoEnvelope 0)) number place → Unfit e p number place
      go true true x y r = rw (← r.0, ← r.1) (Unfit.too_long (is_taken_lem e x) (ltb-true longest (length p) y))
      go true false x y r = absurd r
      go false b x y r = rw (← r.0, ← r.1) (Unfit.no_taken_envelope (λ t. false≢true (sym x ∙ taken_is e t)))

  first_given : {number place : ℕ} → Unfit e p number place → RefusedWith (first_answer e p) number place
  unfolding first_answer
  first_given (Unfit.no_taken_envelope f) = rw (untaken _ _ f) (refl, refl)
  first_given (Unfit.too_long t h) = rw (taken_is e t, lt-ltb longest (length p) h) (refl, refl)

  -- ---- next: as check
  next_checks : (number place : ℕ) → RefusedWith (next_answer e p) number place → RefusedWith (check_answer e p) number place
  unfolding next_answer
  next_checks number place r = go (check_answer e p) (next_of e p) r
    where
      go : (a : Result Answer Refusal) (x : Option (List ℕ)) → RefusedWith (if_inside a (done_or_last x)) number place → RefusedWith a number place
      go (Ok Answer.Inside) (some q) r = r
      go (Ok Answer.Inside) none r = r
      go (Ok Answer.Done) x r = r
      go (Ok Answer.Last) x r = r
      go (Err f) x r = r

  next_given : (number place : ℕ) → RefusedWith (check_answer e p) number place → RefusedWith (next_answer e p) number place
  unfolding next_answer
  next_given number place h = go (check_answer e p) h
    where
      go : (a : Result Answer Refusal) → RefusedWith a number place → RefusedWith (if_inside a (done_or_last (next_of e p))) number place
      go (Ok a) r = absurd r
      go (Err f) r = r

  pub refusals : PatternRefusals e p
  refusals =
      record {
        check = λ number place. (λ r. listed number place (check_answer e p) (checked e p) r, given);
        first = λ number place. (first_listed number place, first_given);
        next = λ number place. (
          λ r. listed number place (check_answer e p) (checked e p) (next_checks number place r),
          λ h. next_given number place (given h),
        );
      }
