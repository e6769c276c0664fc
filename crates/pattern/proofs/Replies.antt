-- What the scan finds is what the answers say, and from its lift comes the successor.
-- Assumes nothing.
use Prim.Native.Nat.{ℕ, zero, suc, ◌+◌, ◌-◌, ◌≤◌, ◌<◌}
use native.Mathlib.Nat.{add-zero, zero-add, add-suc, suc-add}
use native.Mathlib.Numerals.{add-one}
use native.Mathlib.Omega.{arith}
use mathlib.Core.Path.{◌≡◌, refl, ap, subst, ◌∙◌}
use mathlib.Core.Bool.{Bool, true, false, cond}
use mathlib.Core.List.{List, [], ◌∷◌, ◌++◌}
use mathlib.Core.Option.{Option, none, some}
use lib.IntN.{ℤ, pos}
use lib.ListN.{length, take, length-append}
use lib.Seq.{take_at, append_snoc}
use lib.Dec.{leb, ltb, leb-suc-suc, leb-zero}
use borrow.Author.Tests.{ltb-false, leb-true}
use Rattle.std.specs.Prelude.{Result, Ok, Err, Some, None}
use Rattle.std.specs.Prelude as std
use Rattle.reply.specs.declared.Cause.TheVariants.{NoEnvelope, LongPattern, NotABit, Outside}
use Rattle.reply.specs.declared.Refusal.{Refusal}
use Rattle.reply.specs.Refusal.{refused_for}
use Rattle.envelope.specs.declared.Envelope.{Envelope}
use Rattle.envelope.specs.Envelope.{Taken}
use Rattle.envelope.specs.Inner.Tests.{is_taken}
use Rattle.pattern.specs.declared.Lift.{Lift}
use Rattle.pattern.specs.declared.Answer.{Answer}
use Rattle.pattern.specs.declared.Answer.TheVariants.{Inside}
use Rattle.pattern.specs.Step.{one_may, zero_may}
use Rattle.judging.specs.Bytes.{longest, plain}
use Rattle.pattern.specs.Pattern.{after, may, passed, next, raised}
use Rattle.pattern.specs.Answer.{steps_of, next_of, check_answer}
use Rattle.judging.specs.Inner.Scan.{Near, one_at, offset_after, scanned, admitted, end_offset}
use Rattle.judging.proofs.Admitted.{Admitted, is_admitted}
use Rattle.pattern.specs.Inner.Lifts.{filled, reached, lifted, last_lift, lift_of}
use Rattle.pattern.proofs.Binary.{Bits}
use Rattle.judging.proofs.Offsets.{near_start, near_on}
use Rattle.pattern.proofs.Offsets.{offset_of, offset_start, onward_is, one_is, may_is, filled_is}

-- ---- bytes that are all bits
pub bits_of : (p : List ℕ) → length p ≤ plain p → Bits p
bits_of [] h = tt
bits_of (b ∷ p) h = go (leb b 1) refl (bits_of p)
  where
    go : (t : Bool) → leb b 1 ≡ t → (length p ≤ plain p → Bits p) → Bits (b ∷ p)
    go true q ih = let f = rw q at h in (leb-true b 1 q, ih (omega arith))
    go false q ih = let f = rw q at h in absurd (omega arith)

module _ (e : Envelope) where
  abbrev z : ℕ → ℕ → Bool
  z = zero_may e

  abbrev o : ℕ → ℕ → Bool
  o = one_may e

  -- the scan stops at the first forbidden step, or has the offset past the end
  scan_is : (p : List ℕ) (i j : ℕ) → Bits p → scanned e i (offset_of e i j) p ≡ cond (ltb (passed z o i j p) (length p)) (refused_for Outside (i + passed z o i j p)) (Ok (reached e (offset_of e i j) p))
  scan_is [] i j h = refl
  scan_is (b ∷ p) i j h = go (may z o i j b) refl (scan_is p (suc i) (after j b) h.1)
    where
      d : ℤ
      d = offset_of e i j

      k : ℕ
      k = passed z o (suc i) (after j b) p

      go : (t : Bool) → may z o i j b ≡ t → scanned e (suc i) (offset_of e (suc i) (after j b)) p ≡ cond (ltb k (length p)) (refused_for Outside (suc i + k)) (Ok (reached e (offset_of e (suc i) (after j b)) p)) → scanned e i d (b ∷ p) ≡ cond (ltb (passed z o i j (b ∷ p)) (length (b ∷ p))) (refused_for Outside (i + passed z o i j (b ∷ p))) (Ok (reached e d (b ∷ p)))
      go true q ih = rw (← may_is e i j b h.0, q, onward_is e i j b, leb-suc-suc (suc k) (length p), add-suc i k, ← suc-add i k) ih
      go false q ih = rw (← may_is e i j b h.0, q, leb-suc-suc 0 (length p), leb-zero, add-zero)

  -- ---- the successor, from the last lift
  abbrev pub from_lift : List ℕ → std.Option Lift → Option (List ℕ)
  from_lift w None = none
  from_lift w (Some m) = some (take m.place w ++ (1 ∷ filled e (offset_after e m.offset 1) (length w - suc m.place)))

  abbrev front : List ℕ → Option (List ℕ) → Option (List ℕ) → Option (List ℕ)
  front pre none other = other
  front pre (some q) other = some (pre ++ q)

  from_last : (p pre : List ℕ) (i j : ℕ) (m : std.Option Lift) → length pre ≡ i → from_lift (pre ++ p) (last_lift e i (offset_of e i j) m p) ≡ front pre (next z o i j p) (from_lift (pre ++ p) m)
  from_last [] pre i j m h = refl
  from_last (b ∷ p) pre i j m h =
      go (next z o (suc i) (after j b) p) refl
      (rw (append_snoc pre b p) at (from_last p (pre ++ (b ∷ [])) (suc i) (after j b) (lifted e i (offset_of e i j) m b) (length-append pre (b ∷ []) ∙ add-one (length pre) ∙ ap suc h)))
    where
      w : List ℕ
      w = pre ++ (b ∷ p)

      d : ℤ
      d = offset_of e i j

      end : std.Option Lift
      end = last_lift e (suc i) (offset_of e (suc i) (after j b)) (lifted e i d m b) p

      same : last_lift e i d m (b ∷ p) ≡ end
      same = ap (λ (x : ℤ). last_lift e (suc i) x (lifted e i d m b) p) (onward_is e i j b)

      raise : (c : ℕ) (t : Bool) → o i j ≡ t → from_lift w (lifted e i d m c) ≡ front pre (raised z o i j c (length p)) (from_lift w m)
      raise zero true q =
          let el : length w - suc i ≡ length p = omega (arith, length-append pre (b ∷ p)) in
          rw (← one_is e i j, q, take_at pre (b ∷ p) i h, el, onward_is e i j 1, filled_is e (length p) (suc i) (suc j))
      raise zero false q = rw (← one_is e i j, q)
      raise (suc c) t q = refl

      go : (r : Option (List ℕ)) → next z o (suc i) (after j b) p ≡ r → from_lift w end ≡ front (pre ++ (b ∷ [])) (next z o (suc i) (after j b) p) (from_lift w (lifted e i d m b)) → from_lift w (last_lift e i d m (b ∷ p)) ≡ front pre (next z o i j (b ∷ p)) (from_lift w m)
      go none q ih = rw (same, q) ((rw q at ih) ∙ raise b (o i j) refl)
      go (some r) q ih = rw (same, q) ((rw q at ih) ∙ ap {B = Option (List ℕ)} some (append_snoc pre b r))

  pub next_lift : (p : List ℕ) → from_lift p (lift_of e p) ≡ next_of e p
  next_lift p =
      subst (λ (d : ℤ). from_lift p (last_lift e 0 d None p) ≡ next_of e p) (offset_start e)
      (from_last p [] 0 0 None refl ∙ go (next_of e p))
    where
      go : (r : Option (List ℕ)) → front [] r none ≡ r
      go none = refl
      go (some q) = refl

  -- ---- what is known of a lift after i bits
  abbrev pub Sane : ℕ → std.Option Lift → Type 0
  Sane i None = Unit {0}
  Sane i (Some m) = (m.place < i) × Near m.place m.offset

  sane_more : (i : ℕ) (m : std.Option Lift) → Sane i m → Sane (suc i) m
  sane_more i None s = tt
  sane_more i (Some m) s = (omega (arith, s.0), s.1)

  module _ (t : Taken e) where
    sane_step : (i : ℕ) (d : ℤ) (m : std.Option Lift) (b : ℕ) → Near i d → Sane i m → Sane (suc i) (lifted e i d m b)
    sane_step i d m zero v s = go (one_at e d) refl
      where
        go : (x : Bool) → one_at e d ≡ x → Sane (suc i) (lifted e i d m zero)
        go true q = rw q (omega arith, v)
        go false q = rw q (sane_more i m s)
    sane_step i d m (suc b) v s = sane_more i m s

    sane_last : (p : List ℕ) (i : ℕ) (d : ℤ) (m : std.Option Lift) → Near i d → Sane i m → Sane (i + length p) (last_lift e i d m p)
    sane_last [] i d m v s = rw add-zero s
    sane_last (b ∷ p) i d m v s =
        rw (add-suc, ← suc-add) (sane_last p (suc i) (offset_after e d b) (lifted e i d m b) (near_on e t i d b v) (sane_step i d m b v s))

    pub sane : (p : List ℕ) → Sane (length p) (lift_of e p)
    sane p = rw zero-add at (sane_last p 0 (pos 0) None near_start tt)

  -- ---- what the end comes to, as an answer
  abbrev pub answer_of : Result ℤ Refusal → Result Answer Refusal
  answer_of (Ok end) = Ok Inside
  answer_of (Err r) = Err r

  whole_scan : (p : List ℕ) → Bits p → scanned e 0 (pos 0) p ≡ cond (ltb (steps_of e p) (length p)) (refused_for Outside (steps_of e p)) (Ok (reached e (pos 0) p))
  whole_scan p h =
      subst (λ (d : ℤ). scanned e 0 d p ≡ cond (ltb (steps_of e p) (length p)) (refused_for Outside (steps_of e p)) (Ok (reached e d p))) (offset_start e)
      (rw zero-add at (scan_is p 0 0 h))

  pub end_check : (p : List ℕ) → answer_of (end_offset e p) ≡ check_answer e p
  unfolding end_offset check_answer
  end_check p = admission (cond (ltb (plain p) (length p)) (refused_for NotABit (plain p)) (scanned e 0 (pos 0) p)) ∙ ap (admitted e p) (go (ltb (plain p) (length p)) refl)
    where
      admission : (x : Result ℤ Refusal) → answer_of (admitted e p x) ≡ admitted e p (answer_of x)
      admission x = by (is_taken e) (ltb longest (length p))
        where
          by : (a b : Bool) → answer_of (cond a (cond b (refused_for LongPattern 0) x) (refused_for NoEnvelope 0)) ≡ cond a (cond b (refused_for LongPattern 0) (answer_of x)) (refused_for NoEnvelope 0)
          by true true = refl
          by true false = refl
          by false b = refl

      steps : (c : Bool) → answer_of (cond c (refused_for Outside (steps_of e p)) (Ok (reached e (pos 0) p))) ≡ cond c (refused_for Outside (steps_of e p)) (Ok Inside)
      steps true = refl
      steps false = refl

      go : (c : Bool) → ltb (plain p) (length p) ≡ c → answer_of (cond c (refused_for NotABit (plain p)) (scanned e 0 (pos 0) p)) ≡ cond c (refused_for NotABit (plain p)) (cond (ltb (steps_of e p) (length p)) (refused_for Outside (steps_of e p)) (Ok Inside))
      go true q = refl
      go false q = ap answer_of (whole_scan p (bits_of p (ltb-false (plain p) (length p) q))) ∙ steps (ltb (steps_of e p) (length p))

  -- a pattern that passes
  pub record Passes (p : List ℕ) (end : ℤ) : Type 0 where
    pub taken : Taken e
    pub short : length p ≤ longest
    pub all_bits : length p ≤ plain p
    pub is_end : end ≡ reached e (pos 0) p

  pub sound_is : (p : List ℕ) (end : ℤ) → Ok end ≡ end_offset e p → Passes p end
  unfolding end_offset
  sound_is p end h =
      let r = is_admitted e p _ end h in
      go r.0 (ltb (plain p) (length p)) refl r.1
    where
      steps : (c : Bool) → Ok end ≡ cond c (refused_for Outside (steps_of e p)) (Ok (reached e (pos 0) p)) → end ≡ reached e (pos 0) p
      steps true q = absurd (cc)
      steps false q = cc

      go : Admitted e p → (c : Bool) → ltb (plain p) (length p) ≡ c → Ok end ≡ cond c (refused_for NotABit (plain p)) (scanned e 0 (pos 0) p) → Passes p end
      go m true ec q = absurd (cc)
      go m false ec q =
          record {
            taken = m.taken;
            short = m.short;
            all_bits = ltb-false (plain p) (length p) ec;
            is_end = steps (ltb (steps_of e p) (length p)) (q ∙ whole_scan p (bits_of p (ltb-false (plain p) (length p) ec)));
          }
