-- What `check`, `first` and `next` answer, and what they write, for any four numbers and any bytes.
-- "Patterns: 12, 13, 14 over the whole pattern, 15."
use Rattle.std.specs.Prelude.{ℕ, ◌≡◌, cond, List, length, ltb, Result, Ok, Err}
use Rattle.std.proofs.Math.Option.{Option, none, some}
use Rattle.reply.specs.declared.Cause.TheVariants.{NotABit, Outside}
use Rattle.reply.specs.declared.Refusal.{Refusal}
use Rattle.reply.specs.Refusal.{cause_number, refused_for}
use Rattle.envelope.specs.declared.Envelope.{Envelope}
use Rattle.pattern.specs.declared.Answer.{Answer}
use Rattle.pattern.specs.declared.Answer.TheVariants.{Inside, Done, Last}
use Rattle.pattern.specs.Step.{one_may, zero_may}
use Rattle.judging.specs.Bytes.{plain}
use Rattle.judging.specs.Inner.Scan.{admitted}
use Rattle.pattern.specs.Pattern.{passed, fill, next}

-- the number of a refusal, 0 where there is none
abbrev pub answer_number : Result Answer Refusal → ℕ
answer_number (Ok a) = 0
answer_number (Err r) = cause_number r.cause

-- how many steps of a pattern may be taken before the first forbidden one
abbrev pub steps_of : Envelope → List ℕ → ℕ
steps_of e p = passed (zero_may e) (one_may e) 0 0 p

-- "Check answers inside, or 12 to 15": 14 at the first byte that is not 0 or 1, 15 at the first forbidden step
unfoldable pub check_answer : Envelope → List ℕ → Result Answer Refusal
check_answer e p =
    admitted e p
    (cond (ltb (plain p) (length p)) (refused_for NotABit (plain p))
    (cond (ltb (steps_of e p) (length p)) (refused_for Outside (steps_of e p))
    (Ok Inside)))

-- "First fills the lent slice"
unfoldable pub first_answer : Envelope → List ℕ → Result Answer Refusal
first_answer e p = admitted e p (Ok Done)

-- "Next turns a pattern into its successor, or answers last"
abbrev pub next_of : Envelope → List ℕ → Option (List ℕ)
next_of e p = next (zero_may e) (one_may e) 0 0 p

abbrev pub done_or_last : Option (List ℕ) → Result Answer Refusal
done_or_last (some q) = Ok Done
done_or_last none = Ok Last

-- of a pattern that is inside, a; else the refusal
abbrev pub if_inside : Result Answer Refusal → Result Answer Refusal → Result Answer Refusal
if_inside (Ok Inside) a = a
if_inside (Ok Done) a = Ok Done
if_inside (Ok Last) a = Ok Last
if_inside (Err r) a = Err r

unfoldable pub next_answer : Envelope → List ℕ → Result Answer Refusal
next_answer e p = if_inside (check_answer e p) (done_or_last (next_of e p))

-- the slice after an answer: q where that is "done"; "last" and a refusal write nothing
abbrev pub written : Result Answer Refusal → List ℕ → List ℕ → List ℕ
written (Ok Inside) q p = p
written (Ok Done) q p = q
written (Ok Last) q p = p
written (Err r) q p = p

unfoldable pub first_bytes : Envelope → List ℕ → List ℕ
first_bytes e p = written (first_answer e p) (fill (zero_may e) (one_may e) 0 0 (length p)) p

abbrev pub or_else : Option (List ℕ) → List ℕ → List ℕ
or_else (some q) p = q
or_else none p = p

unfoldable pub next_bytes : Envelope → List ℕ → List ℕ
next_bytes e p = written (next_answer e p) (or_else (next_of e p) p) p

-- the contract of `check`: the four numbers e, the pattern p
pub record Checks (e : Envelope) (p : List ℕ) (answer : Result Answer Refusal) : Type 0 where
  pub answer_is : answer ≡ check_answer e p

-- the contracts of `first` and `next`: the slice p at the beginning, q at the end
pub record Firsts (e : Envelope) (p : List ℕ) (answer : Result Answer Refusal) (q : List ℕ) : Type 0 where
  pub answer_is : answer ≡ first_answer e p
  pub bytes_are : q ≡ first_bytes e p

pub record Nexts (e : Envelope) (p : List ℕ) (answer : Result Answer Refusal) (q : List ℕ) : Type 0 where
  pub answer_is : answer ≡ next_answer e p
  pub bytes_are : q ≡ next_bytes e p
