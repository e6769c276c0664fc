-- What each function has found, as its answer, and what it has written.
-- Assumes nothing.
use Prim.Native.Nat.{ℕ, suc, ◌-◌, ◌≤◌, ◌<◌}
use native.Mathlib.Omega.{arith}
use mathlib.Core.Path.{◌≡◌, sym, ap, subst, ◌∙◌}
use mathlib.Core.Bool.{true}
use mathlib.Core.List.{List, ◌∷◌, ◌++◌}
use mathlib.Core.Option.{none, some}
use lib.IntN.{ℤ, pos}
use lib.ListN.{length, take}
use mir.Syntax.{w64}
use mir.Val.{to_z, of_z}
use borrow.Author.Tests.{le-ltb}
use Rattle.std.specs.Prelude.{Result, Ok, Err, Some, None}
use Rattle.std.specs.Prelude as std
use Rattle.reply.specs.declared.Refusal.{Refusal}
use Rattle.envelope.specs.declared.Envelope.{Envelope}
use Rattle.envelope.specs.Envelope.{Taken}
use Rattle.envelope.specs.Inner.Tests.{is_taken}
use Rattle.pattern.specs.declared.Lift.{Lift}
use Rattle.pattern.specs.declared.Answer.TheVariants.{Inside, Done, Last}
use Rattle.judging.specs.Bytes.{longest, plain}
use Rattle.pattern.specs.Answer.{check_answer, first_answer, first_bytes, next_of, next_answer, next_bytes, Firsts, Nexts}
use Rattle.judging.specs.Inner.Scan.{Near, offset_after, admitted, end_offset}
use Rattle.judging.proofs.Admitted.{not_admitted}
use Rattle.pattern.specs.Inner.Lifts.{filled, reached, lift_of}
use Rattle.judging.proofs.Offsets.{near_on, near_more, near_held}
use Rattle.pattern.proofs.Offsets.{offset_start, filled_is, near_reached}
use Rattle.pattern.proofs.Replies.{from_lift, next_lift, Sane, sane, answer_of, end_check, Passes, sound_is}

module _ (e : Envelope) (p : List ℕ) where
  -- ---- check
  pub check_is : (j : Result ℤ Refusal) → j ≡ end_offset e p → answer_of e j ≡ check_answer e p
  check_is j q = ap (answer_of e) q ∙ end_check e p

  -- ---- first
  pub first_bad : {A : Type 0} (x : A) (r : Refusal) → Err r ≡ admitted e p (Ok x) → Firsts e p (Err r) p
  unfolding first_answer first_bytes
  first_bad x r q =
      let w : Err r ≡ first_answer e p = not_admitted e p x (Ok Done) r q in
      record { answer_is = w; bytes_are = rw (← w) }

  pub first_done : is_taken e ≡ true → length p ≤ longest → (q : List ℕ) → q ≡ filled e (pos 0) (length p) → Firsts e p (Ok Done) q
  unfolding first_answer first_bytes
  first_done f h q w =
      let all : filled e (pos 0) (length p) ≡ filled e _ (length p) = ap (λ (d : ℤ). filled e d (length p)) (sym (offset_start e)) in
      record {
        answer_is = rw (f, le-ltb longest (length p) h);
        bytes_are = rw (f, le-ltb longest (length p) h) (w ∙ all ∙ filled_is e (length p) 0 0);
      }

  -- ---- next
  pub next_bad : (r : Refusal) → Err r ≡ end_offset e p → Nexts e p (Err r) p
  unfolding next_answer next_bytes
  next_bad r q =
      let w : check_answer e p ≡ Err r = sym (check_is (Err r) q) in
      record { answer_is = rw w; bytes_are = rw w }

  module _ (end : ℤ) (q : Ok end ≡ end_offset e p) where
    passing : Passes e p end
    passing = sound_is e p end q

    is_inside : check_answer e p ≡ Ok Inside
    is_inside = sym (check_is (Ok end) q)

    pub short : length p ≤ longest
    short = passing.short

    pub taken : Taken e
    taken = passing.taken

    pub all_bits : length p ≤ plain p
    all_bits = passing.all_bits

    -- the machine has the offset past the end
    pub end_held : to_z w64 (of_z w64 end) ≡ reached e (pos 0) p
    end_held =
        ap (λ (d : ℤ). to_z w64 (of_z w64 d)) passing.is_end
        ∙ near_held (length p) (reached e (pos 0) p) short (near_reached e taken p)

    module _ (m : std.Option Lift) (is_lift : m ≡ lift_of e p) where
      next_fine : next_of e p ≡ from_lift e p m
      next_fine = sym (next_lift e p) ∙ ap (from_lift e p) (sym is_lift)

      pub next_last : m ≡ None → Nexts e p (Ok Last) p
      unfolding next_answer next_bytes
      next_last h =
          let n : next_of e p ≡ none = next_fine ∙ ap (from_lift e p) h in
          record { answer_is = rw (is_inside, n); bytes_are = rw (is_inside, n) }

      -- ---- where there is a lift, its 0 becomes a 1
      module _ (l : Lift) (there : m ≡ Some l) where
        sane_lift : Sane e (length p) (Some l)
        sane_lift = subst (Sane e (length p)) (sym is_lift ∙ there) (sane e taken p)

        pub within : l.place < length p
        within = sane_lift.0

        lift_held : to_z w64 (of_z w64 l.offset) ≡ l.offset
        lift_held = near_held l.place l.offset (omega (arith, within, short)) sane_lift.1

        pub near_held_lift : Near longest (to_z w64 (of_z w64 l.offset))
        near_held_lift = rw lift_held (near_more l.place longest l.offset (omega (arith, within, short)) sane_lift.1)

        near_raised : Near (suc l.place) (offset_after e l.offset 1)
        near_raised = near_on e taken l.place l.offset 1 sane_lift.1

        -- the offset after that 1, of which the machine has r
        module _ (r : ℤ) (is_on : r ≡ offset_after e (to_z w64 (of_z w64 l.offset)) 1) where
          raised_held : to_z w64 (of_z w64 r) ≡ offset_after e l.offset 1
          raised_held =
              ap (λ (d : ℤ). to_z w64 (of_z w64 d)) (is_on ∙ ap (λ (d : ℤ). offset_after e d 1) lift_held)
              ∙ near_held (suc l.place) (offset_after e l.offset 1) (omega (arith, within, short)) near_raised

          pub near_after : (k : ℕ) → l.place < k → Near k (to_z w64 (of_z w64 r))
          near_after k h = rw raised_held (near_more (suc l.place) k (offset_after e l.offset 1) (omega arith) near_raised)

          pub next_done : (w : List ℕ) → w ≡ take l.place p ++ (1 ∷ filled e (to_z w64 (of_z w64 r)) (length p - suc l.place)) → Nexts e p (Ok Done) w
          unfolding next_answer next_bytes
          next_done w h =
              let n : next_of e p ≡ some (take l.place p ++ (1 ∷ filled e (offset_after e l.offset 1) (length p - suc l.place))) = next_fine ∙ ap (from_lift e p) there in
              record { answer_is = rw (is_inside, n); bytes_are = rw (is_inside, n) (h ∙ ap (λ (x : ℤ). take l.place p ++ (1 ∷ filled e x (length p - suc l.place))) raised_held) }
