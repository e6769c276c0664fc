-- The cause that has a number, and the refusal with a number and a place: what contracts make of the numbers that the rules give.
use Rattle.std.specs.Prelude.{cond, List, [], ◌∷◌, ℕ, eqb}
use Rattle.reply.specs.declared.Cause.{Cause}
use Rattle.reply.specs.declared.Cause.TheVariants.{Missing, Beyond, Unknown, NoOne, Absent, TooDeep, Empty, FullRate, Outgrown, Trailing, ShortResult, NoEnvelope, LongPattern, NotABit, Outside, NoClock, AlreadyClosed}
use Rattle.reply.specs.declared.Refusal.{Refusal}
use Rattle.reply.specs.Refusal.{cause_number}

-- all of them
abbrev pub causes : List Cause
causes =
    Missing ∷ Beyond ∷ Unknown ∷ NoOne ∷ Absent ∷ TooDeep ∷ Empty ∷ FullRate ∷ Outgrown ∷ Trailing ∷ ShortResult ∷ NoEnvelope ∷ LongPattern ∷ NotABit
    ∷ Outside ∷ NoClock ∷ AlreadyClosed ∷ []

-- the one of these causes that has a number; the last of document 01's where none has
abbrev pub cause_among : List Cause → ℕ → Cause
cause_among [] number = AlreadyClosed
cause_among (c ∷ cs) number = cond (eqb number (cause_number c)) c (cause_among cs number)

unfoldable pub cause_with : ℕ → Cause
cause_with number = cause_among causes number

-- the refusal with a number and a place
abbrev pub refusal : ℕ → ℕ → Refusal
refusal number place = record { cause = cause_with number; place = place }
