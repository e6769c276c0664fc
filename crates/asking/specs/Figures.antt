-- A pattern in figures.
use Rattle.std.specs.Prelude.{List, [], ◌∷◌, map, ℕ, ◌-◌, cond, eqb, bytes_eq, length, take, drop}

-- the bit that a figure stands for; of any other byte, what is no bit
abbrev pub bit_of : ℕ → ℕ
bit_of figure = cond (eqb figure 48) 0 (cond (eqb figure 49) 1 2)

abbrev pub bits_of : List ℕ → List ℕ
bits_of text = map bit_of text

-- a text without the line feed that may end it
abbrev pub line_of : List ℕ → List ℕ
line_of text =
    cond (bytes_eq (drop (length text - 1) text) (10 ∷ [])) (take (length text - 1) text) text
