-- What reading answers: a piece with the place past it, or a refusal. The order of the checks is written in these words.
use Rattle.std.specs.Prelude.{ℕ}

-- what was read and the place past it; or a refusal's number and its place
pub data Read (A : Type 0) : Type 0 where
  got : A → ℕ → Read A
  refused : ℕ → ℕ → Read A

-- "the sheet is read left to right and the first fault is given": what follows goes on from the place past the piece
abbrev pub bind : {A B : Type 0} → Read A → (A → ℕ → Read B) → Read B
bind (got x place) next = next x place
bind (refused number place) next = refused number place

-- what was read, seen through f
abbrev pub mapped : {A B : Type 0} → (A → B) → Read A → Read B
mapped f (got x place) = got (f x) place
mapped f (refused number place) = refused number place
