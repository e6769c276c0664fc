-- The beginnings of the endless streams that lie in an envelope.
use Rattle.std.specs.Prelude.{ℕ, zero, suc, ◌≡◌, Bool, List, [], ◌∷◌, length}
use Rattle.envelope.specs.declared.Envelope.{Envelope}
use Rattle.envelope.specs.Stream.{Stream, value, Lies}

-- m bits, from bit t on
abbrev pub part : (ℕ → Bool) → ℕ → ℕ → List ℕ
part b t zero = []
part b t (suc m) = value (b t) ∷ part b (suc t) m

-- the first bits of some stream that lies in the envelope are the pattern's
pub record Begins (e : Envelope) (p : List ℕ) : Type 0 where
  pub stream : Stream
  pub lies : Lies stream e
  pub begins : part stream.bit zero (length p) ≡ p
