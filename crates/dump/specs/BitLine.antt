-- Bits as text.
use Rattle.std.specs.Prelude.{cond, List, [], ◌∷◌, ℕ, eqb}
use Rattle.line.specs.Text.{figure, line_feed}

abbrev pub bit_figure : ℕ → ℕ
bit_figure bit = cond (eqb bit 0) (figure 0) (figure 1)

-- "prints patterns one to a line"
unfoldable pub bit_line : List ℕ → List ℕ
bit_line [] = line_feed ∷ []
bit_line (bit ∷ bits) = bit_figure bit ∷ bit_line bits
