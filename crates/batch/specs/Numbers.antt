-- Numbers in an answer (docs/BATCH.md).
use Rattle.std.specs.Prelude.{List, [], ◌∷◌, ◌++◌, ℕ, ℤ}
use Rattle.field.specs.Spelling.{bytes_of, twos_by}

-- "All numbers are low byte first; signed ones in two's complement": eight bytes each
abbrev pub numbers_of : List ℤ → List ℕ
numbers_of [] = []
numbers_of (z ∷ zs) = bytes_of 8 (twos_by 9223372036854775808 z) ++ numbers_of zs
