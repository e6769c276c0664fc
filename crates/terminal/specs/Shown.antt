-- A name as a complaint shows it.
use Rattle.std.specs.Prelude.{cond, List, map, ℕ, take}
use Rattle.std.specs.Char.{is_ascii_control}

-- a byte that would end the line or steer the terminal is a question mark
abbrev pub shown_byte : ℕ → ℕ
shown_byte b = cond (is_ascii_control b) 63 b

-- of a name that is longer than any path, its beginning
abbrev pub shown_name : List ℕ → List ℕ
shown_name name = map shown_byte (take 4096 name)
