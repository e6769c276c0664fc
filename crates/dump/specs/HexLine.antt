-- Bytes in hexadecimal.
use Rattle.std.specs.Prelude.{cond, List, [], ◌∷◌, ◌++◌, ℕ, ◌+◌, ◌-◌, ◌/◌, ◌%◌, ltb, eqb}
use Rattle.line.specs.Text.{figure, blank, line_feed}

-- "0" to "9", then "a", which is 97, to "f"
abbrev pub hex_figure : ℕ → ℕ
hex_figure d = cond (ltb d 10) (figure d) (97 + (d - 10))

abbrev pub hex_byte : ℕ → ℕ → List ℕ
hex_byte b after = hex_figure (b / 16) ∷ hex_figure (b % 16) ∷ after ∷ []

-- what stands after byte i of n
abbrev pub after_byte : ℕ → ℕ → ℕ
after_byte i n = cond (eqb (i + 1) n) line_feed blank

-- what stands before the rest: a blank, and a line feed where nothing is left
abbrev pub between : List ℕ → ℕ
between [] = line_feed
between (b ∷ t) = blank

-- "in hexadecimal, two digits each, one blank between"
unfoldable pub hex_line : List ℕ → List ℕ
hex_line [] = []
hex_line (b ∷ t) = hex_byte b (between t) ++ hex_line t
