-- Refusals as the code has them, and document 01's number for each cause.
use Rattle.std.specs.Prelude.{◌≡◌, ◌≢◌, ℕ, Result, Ok, Err}
use Rattle.reply.specs.declared.Cause.{Cause}
use Rattle.reply.specs.declared.Cause.TheVariants.{Missing, Beyond, Unknown, NoOne, Absent, TooDeep, Empty, FullRate, Outgrown, Trailing, ShortResult, NoEnvelope, LongPattern, NotABit, Outside, NoClock, AlreadyClosed}
use Rattle.reply.specs.declared.Refusal.{Refusal}
use Rattle.reply.specs.Numbers.{missing, beyond, unknown, no_one, absent, too_deep, trailing, short_result, no_envelope, long_pattern, not_a_bit, outside, no_clock, already_closed}

-- "Reply numbers"
abbrev pub cause_number : Cause → ℕ
cause_number Missing = missing
cause_number Beyond = beyond
cause_number Unknown = unknown
cause_number NoOne = no_one
cause_number Absent = absent
cause_number TooDeep = too_deep
cause_number Empty = 7
cause_number FullRate = 8
cause_number Outgrown = 9
cause_number Trailing = trailing
cause_number ShortResult = short_result
cause_number NoEnvelope = no_envelope
cause_number LongPattern = long_pattern
cause_number NotABit = not_a_bit
cause_number Outside = outside
cause_number NoClock = no_clock
cause_number AlreadyClosed = already_closed

-- an answer that is a refusal
abbrev pub refused_for : {A : Type 0} → Cause → ℕ → Result A Refusal
refused_for cause place = Err (record { cause = cause; place = place })

-- "a refusal gives its number and place": the answer is the refusal with that number, at that place
abbrev pub RefusedWith : {A : Type 0} → Result A Refusal → ℕ → ℕ → Type 0
RefusedWith (Ok x) number place = ⊥
RefusedWith (Err r) number place = (cause_number r.cause ≡ number) × (r.place ≡ place)

-- 0 stands for no refusal: no cause has that number
pub record NoCauseIsZero : Type 0 where
  pub not_0 : (c : Cause) → cause_number c ≢ 0
