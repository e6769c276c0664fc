-- What "next" answers: the successor is the least beginning above the given one, and "last" says that there is none.
-- Assumes nothing.
use Prim.Native.Nat.{ℕ, ◌≤◌}
use native.Mathlib.Omega.{arith}
use mathlib.Core.Path.{◌≡◌, refl, sym, ap, subst, ◌∙◌}
use mathlib.Core.Logic.{⊎_elim, ◌↔◌}
use mathlib.Core.Bool.{Bool, true, false}
use mathlib.Core.List.{List}
use mathlib.Core.Option.{Option, none, some}
use lib.ListN.{length}
use lib.Dec.{ltb}
use borrow.Author.Tests.{ltb-true, ltb-false}
use Rattle.std.specs.Prelude.{Result, Ok}
use Rattle.reply.specs.declared.Refusal.{Refusal}
use Rattle.envelope.specs.declared.Envelope.{Envelope}
use Rattle.pattern.specs.declared.Answer.{Answer}
use Rattle.pattern.specs.declared.Answer.TheVariants.{Done, Last}
use Rattle.pattern.specs.Step.{low, high, one_may, zero_may}
use Rattle.pattern.specs.Pattern.{Inside, number}
use Rattle.pattern.specs.Answer.{answer_number, check_answer, next_of, done_or_last, if_inside, next_answer, next_bytes, written, or_else}
use Rattle.pattern.specs.Walk.{Successor, Greatest}
use Rattle.pattern.proofs.Lists.{Less}
use Rattle.pattern.proofs.Walking.{next_length}
use Rattle.pattern.proofs.Least.{From, next_least, next_greater, next_inside}
use Rattle.pattern.proofs.Binary.{Bits, less_number, number_less}
use Rattle.pattern.proofs.Streams.{Live}
use Rattle.pattern.proofs.Beginnings.{begins_in, in_begins, live_0, live_1, step_on, live_start}
use Rattle.pattern.proofs.Checks.{inside_bits, Passing, inside_check, check_inside, Checked, checked, is_inside, no_taken_envelope, too_long, no_bit, forbidden}

module _ (e : Envelope) where
  abbrev z : ℕ → ℕ → Bool
  z = zero_may e

  abbrev o : ℕ → ℕ → Bool
  o = one_may e

  pub next_fine : (p : List ℕ) → Passing e p → (next_answer e p ≡ done_or_last (next_of e p)) × (next_bytes e p ≡ written (done_or_last (next_of e p)) (or_else (next_of e p) p) p)
  unfolding next_answer next_bytes
  next_fine p v = (rw (inside_check e p v), rw (inside_check e p v))

  -- "done" and "last" are answered of a pattern inside alone: a refusal has a number
  next_passing : (p : List ℕ) → answer_number (next_answer e p) ≡ 0 → Passing e p
  unfolding next_answer
  next_passing p h = go (check_answer e p) (checked e p) h
    where
      go : (a : Result Answer Refusal) → Checked e p a → answer_number (if_inside a (done_or_last (next_of e p))) ≡ 0 → Passing e p
      go _ (is_inside v) q = v
      go _ (no_taken_envelope f) q = absurd (omega arith)
      go _ (too_long t k) q = absurd (omega arith)
      go _ (no_bit t k l) q = absurd (omega arith)
      go _ (forbidden t k b l) q = absurd (omega arith)

  successor : (p : List ℕ) → Passing e p → (q : List ℕ) → next_of e p ≡ some q → Successor e p q
  successor p v q h =
      let same : length q ≡ length p = next_length z o p 0 0 q h in
      let in_q : Inside z o 0 0 q = next_inside z o (Live (low e) (high e)) (live_0 e v.taken) (live_1 e v.taken) (step_on e v.taken) p 0 0 (live_start e v.taken) v.inside q h in
      let bits_p : Bits p = inside_bits z o p 0 0 v.inside in
      let bits_q : Bits q = inside_bits z o q 0 0 in_q in
      record {
        same_length = same;
        begins = in_begins e v.taken q in_q;
        greater = less_number p q (sym same) bits_p bits_q (next_greater z o p 0 0 q h);
        least =
            λ r er br g.
            let in_r : Inside z o 0 0 r = begins_in e r br in
            let bits_r : Bits r = inside_bits z o r 0 0 in_r in
            let f : From (next_of e p) r = next_least z o p r 0 0 er v.inside in_r (number_less p r (sym er) bits_p bits_r g) in
            ⊎_elim
            (λ s. (let w = ap number s in omega arith))
            (λ l. (let w = less_number q r (same ∙ sym er) bits_q bits_r l in omega arith))
            (subst (λ (n : Option (List ℕ)). From n r) h f);
      }

  none_greater : (p : List ℕ) → Passing e p → next_of e p ≡ none → Greatest e p
  none_greater p v h r er br = go (ltb (number p) (number r)) refl
    where
      go : (t : Bool) → ltb (number p) (number r) ≡ t → number r ≤ number p
      go false q = ltb-false (number p) (number r) q
      go true q =
          let in_r : Inside z o 0 0 r = begins_in e r br in
          let l : Less p r = number_less p r (sym er) (inside_bits z o p 0 0 v.inside) (inside_bits z o r 0 0 in_r) (ltb-true (number p) (number r) q) in
          absurd (subst (λ (n : Option (List ℕ)). From n r) h (next_least z o p r 0 0 er v.inside in_r l))

  pub done_is : (p : List ℕ) → next_answer e p ≡ Ok Done → Successor e p (next_bytes e p)
  done_is p h =
      let v = next_passing p (ap answer_number h) in
      go v (next_of e p) refl (sym (next_fine p v).0 ∙ h) (next_fine p v).1
    where
      go : Passing e p → (n : Option (List ℕ)) → next_of e p ≡ n → done_or_last n ≡ Ok Done → next_bytes e p ≡ written (done_or_last n) (or_else n p) p → Successor e p (next_bytes e p)
      go v none q d b = let w : ◌≡◌ {A = ℕ} 0 1 = cc in absurd (omega arith)
      go v (some s) q d b = rw b (successor p v s q)

  pub last_is : (p : List ℕ) → (next_answer e p ≡ Ok Last) ↔ ((check_answer e p ≡ Ok Answer.Inside) × Greatest e p)
  last_is p = (
    λ h. (let v = next_passing p (ap answer_number h) in (inside_check e p v, to_none v (next_of e p) refl (sym (next_fine p v).0 ∙ h))),
    λ h. (let v = check_inside e p h.0 in (next_fine p v).0 ∙ of_none v h.1 (next_of e p) refl),
  )
    where
      to_none : Passing e p → (n : Option (List ℕ)) → next_of e p ≡ n → done_or_last n ≡ Ok Last → Greatest e p
      to_none v none q d = none_greater p v q
      to_none v (some s) q d = let w : ◌≡◌ {A = ℕ} 0 1 = cc in absurd (omega arith)

      of_none : Passing e p → Greatest e p → (n : Option (List ℕ)) → next_of e p ≡ n → done_or_last n ≡ Ok Last
      of_none v g none q = refl
      of_none v g (some s) q =
          let f = successor p v s q in
          absurd (let a = f.greater in let b = g s f.same_length f.begins in omega arith)
