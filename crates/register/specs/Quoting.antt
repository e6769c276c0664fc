-- Quoting a clock: where its expression lies in the sheet, the part that is handed back, and the reply beside it.
use Rattle.std.specs.Prelude.{◌≡◌, List, [], ℕ, ◌+◌, ◌-◌, take, drop, Result, Ok, Err}
use Rattle.field.specs.Read.{Read, Read.got, Read.refused, bind}
use Rattle.reply.specs.declared.Refusal.{Refusal}
use Rattle.reply.specs.Inner.Causes.{refusal}
use Rattle.sheet.specs.Locating.{located_in}

-- where the expression of clock i begins, behind its state, and the place past it; or the refusal: "1 to 10 or 16"
unfoldable pub quoting_of : List ℕ → ℕ → Read ℕ
quoting_of s i = bind (located_in s i) λ k c. got (k.place + 1) c

-- "handed back as that very part of the sheet": where in the sheet it begins; an empty part is one of its start
abbrev pub quoted_from : Read ℕ → ℕ
quoted_from (got from to) = from
quoted_from (refused number place) = 0

-- and what it holds: "on 1 to 10 or 16 it hands back an empty part"
abbrev pub quoted_part : Read ℕ → List ℕ → List ℕ
quoted_part (got from to) s = take (to - from) (drop from s)
quoted_part (refused number place) s = []

-- "the refusal's number and place, or 0 and 0 where the expression is quoted"
abbrev pub quote_reply : Read ℕ → Result (Unit {0}) Refusal
quote_reply (got from to) = Ok tt
quote_reply (refused number place) = Err (refusal number place)

-- the contract of `quote`, where the sheet lies at `at` and the part at `from`, each a block of memory and an offset in it
pub record Quotes (s : List ℕ) (i : ℕ) (at : ℕ × ℕ) (part : List ℕ) (from : ℕ × ℕ) : Type 0 where
  pub part_is : part ≡ quoted_part (quoting_of s i) s
  pub same_memory : from.0 ≡ at.0
  pub begins : from.1 ≡ quoted_from (quoting_of s i) + at.1

-- the contract of `quote_reply`
pub record RepliesTo (s : List ℕ) (i : ℕ) (r : Result (Unit {0}) Refusal) : Type 0 where
  pub reply_is : r ≡ quote_reply (quoting_of s i)
