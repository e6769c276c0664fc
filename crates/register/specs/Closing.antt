-- Closing a clock: the byte that is turned, the reply, and the bytes at the end.
use Rattle.std.specs.Prelude.{◌≡◌, cond, List, ℕ, ◌+◌, eqb, set, Result, Ok, Err}
use Rattle.reply.specs.Numbers.{already_closed}
use Rattle.field.specs.Read.{Read, Read.got, Read.refused, bind}
use Rattle.sheet.specs.Locating.{located_in}
use Rattle.reply.specs.declared.Refusal.{Refusal}
use Rattle.reply.specs.Inner.Causes.{refusal}

-- "Closing: 1 to 10, 16, 17": the place of the state byte that is to be turned
unfoldable pub closing_of : List ℕ → ℕ → Read ℕ
closing_of s i =
    bind (located_in s i) λ k c. cond (eqb k.clock.state 1) (refused already_closed 0) (got k.place (k.place + 1))

-- the answer: the place of the byte that was turned, or the refusal
abbrev pub closing_reply : Read ℕ → Result ℕ Refusal
closing_reply (got place c) = Ok place
closing_reply (refused number place) = Err (refusal number place)

-- "Closing turns one state byte from 0 to 1"; on a refusal "no lent memory is written"
abbrev pub closed_bytes : Read ℕ → List ℕ → List ℕ
closed_bytes (got place c) s = set s place 1
closed_bytes (refused number place) s = s

-- the contract of `close`: the reply r, and the bytes t at the end
pub record Closes (s : List ℕ) (i : ℕ) (r : Result ℕ Refusal) (t : List ℕ) : Type 0 where
  pub reply_is : r ≡ closing_reply (closing_of s i)
  pub bytes_are : t ≡ closed_bytes (closing_of s i) s
