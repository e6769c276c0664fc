-- What a turned byte says of closing.
use Rattle.std.specs.Prelude.{ℕ, Result, Ok, Err}
use Rattle.reply.specs.declared.Refusal.{Refusal}
use Rattle.close.specs.declared.in_place.Turned.{Turned}

-- its place, as closing answers it; or the refusal
abbrev pub place_of : Result Turned Refusal → Result ℕ Refusal
place_of (Ok t) = Ok t.place
place_of (Err r) = Err r
