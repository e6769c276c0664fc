-- The walk from the first pattern to the last; and the promises of this crate hold.
-- Assumes nothing.
use Prim.Native.Nat.{ℕ, ◌≤◌, ◌<◌}
use native.Mathlib.Omega.{arith}
use mathlib.Core.Path.{◌≡◌, refl, sym, ap, ◌∙◌}
use mathlib.Core.Bool.{Bool, true, false}
use mathlib.Core.List.{List, [], ◌∷◌, Memᴰ}
use lib.ListN.{length, get_or}
use lib.Dec.{ltb}
use borrow.Author.Tests.{ltb-true, ltb-false, le-ltb}
use Rattle.envelope.specs.declared.Envelope.{Envelope}
use Rattle.envelope.specs.Envelope.{Taken}
use Rattle.envelope.proofs.Tests.{taken_is}
use Rattle.pattern.specs.Step.{one_may, zero_may}
use Rattle.judging.specs.Bytes.{longest}
use Rattle.pattern.specs.Pattern.{Inside, fill, number}
use Rattle.pattern.specs.Answer.{first_answer, first_bytes, next_of}
use Rattle.pattern.specs.Walk.{Steps, Walks, Patterns}
use Rattle.pattern.proofs.Lists.{Follows}
use Rattle.pattern.proofs.Walking.{Walked}
use Rattle.pattern.proofs.Binary.{less_number, rises_at, at_place, place_in}
use Rattle.pattern.proofs.Beginnings.{begins_in, in_begins, walk_in}
use Rattle.pattern.proofs.Checks.{inside_bits, Passing, inside_is}
use Rattle.pattern.proofs.Table.{refusals}
use Rattle.pattern.proofs.Successors.{next_fine, done_is, last_is}

module _ (e : Envelope) where
  abbrev z : ℕ → ℕ → Bool
  z = zero_may e

  abbrev o : ℕ → ℕ → Bool
  o = one_may e

  steps_of : (p : List ℕ) (ps : List (List ℕ)) → ((q : List ℕ) → Memᴰ q (p ∷ ps) → Passing e q) → Follows (next_of e) p ps → Steps e p ps
  steps_of p [] ok h =
      let f = next_fine e p (ok p (Memᴰ.head refl)) in
      λ a w n. (n.answer_is ∙ f.0 ∙ rw h, n.bytes_are ∙ f.1 ∙ rw h)
  steps_of p (q ∷ qs) ok h =
      let f = next_fine e p (ok p (Memᴰ.head refl)) in
      (λ a w n. (n.answer_is ∙ f.0 ∙ rw h.0, n.bytes_are ∙ f.1 ∙ rw h.0), steps_of q qs (λ r m. ok r (Memᴰ.tail m)) h.1)

  module _ (t : Taken e) (m : ℕ) (hm : m ≤ longest) where
    walk : Walked z o 0 0 m (fill z o 0 0 m)
    walk = walk_in e t m

    met : List (List ℕ)
    met = fill z o 0 0 m ∷ walk.rest

    at_met : (i : ℕ) → i < length met → (length (get_or met i []) ≡ m) × Inside z o 0 0 (get_or met i [])
    unfolding met
    at_met i h = walk.only (get_or met i []) (place_in met i h)

    in_order : (i j : ℕ) → i < j → j < length met → number (get_or met i []) < number (get_or met j [])
    unfolding met
    in_order i j h k =
        let a = at_met i (omega arith) in
        let b = at_met j k in
        less_number (get_or met i []) (get_or met j []) (a.0 ∙ sym b.0) (inside_bits z o (get_or met i []) 0 0 a.1) (inside_bits z o (get_or met j []) 0 0 b.1) (rises_at met walk.rising i j h k)

    once : (i j : ℕ) → i < length met → j < length met → get_or met i [] ≡ get_or met j [] → i ≡ j
    once i j h k q = go (ltb i j) (ltb j i) refl refl
      where
        go : (a b : Bool) → ltb i j ≡ a → ltb j i ≡ b → i ≡ j
        go true b p r = absurd (let s = in_order i j (ltb-true i j p) k in let w = ap number q in omega arith)
        go false true p r = absurd (let s = in_order j i (ltb-true j i r) h in let w = ap number q in omega arith)
        go false false p r = omega (arith, ltb-false i j p, ltb-false j i r)

    pub walks : Walks e m
    unfolding met first_answer first_bytes
    walks =
        record {
          met = met;
          walking = (
            λ d h a w f. (
              f.answer_is ∙ rw (taken_is e t, le-ltb longest (length d) (rw h hm)),
              f.bytes_are ∙ rw (taken_is e t, le-ltb longest (length d) (rw h hm), h),
            ),
            steps_of (fill z o 0 0 m) walk.rest (λ q h. record { taken = t; short = rw (walk.only q h).0 hm; inside = (walk.only q h).1 }) walk.follows,
          );
          each = λ p h b. at_place p met (walk.every p h (begins_in e p b));
          once = once;
          in_order = in_order;
          nothing_else = λ i h. ((at_met i h).0, in_begins e t (get_or met i []) (at_met i h).1);
        }

pub patterns : Patterns
patterns =
    record {
      refusals = refusals;
      inside = inside_is;
      done = done_is;
      last = last_is;
      walk = walks;
    }
