-- Where a clock stands in a sheet's bytes: its state, and then its expression.
use Rattle.std.specs.Prelude.{List, ℕ, ◌+◌, length, take}
use Rattle.std.proofs.Math.Option.{Option, none, some}
use Rattle.std.proofs.Math.ListN.{get_elem?}
use Rattle.reply.specs.Numbers.{no_clock}
use Rattle.field.specs.Read.{Read, Read.got, Read.refused, bind}
use Rattle.expression.specs.Expression.{Clock, spell_word, spell_clock}
use Rattle.sheet.specs.Sheet.{Sheet, rows, section}
use Rattle.sheet.specs.Reader.{read_sheet}

-- where clock i begins, with its state: past the words, the u16 count of the clocks and the clocks before it
unfoldable pub clock_place : Sheet → ℕ → ℕ
clock_place v i = length (section spell_word v.words) + (2 + length (rows spell_clock (take i v.clocks)))

-- a clock and where it begins
pub record Located : Type 0 where
  pub clock : Clock
  pub place : ℕ

abbrev pub place_of : Located → ℕ
place_of k = k.place

-- "16: no such clock"
abbrev pub listed_clock : Sheet → ℕ → Option Clock → Read Located
listed_clock v i none = refused no_clock 0
listed_clock v i (some k) = got (record { clock = k; place = clock_place v i }) (clock_place v i + length (spell_clock k))

-- clock i of a sheet's bytes and the place past it, or a refusal: "1 to 10", then 16
unfoldable pub located_in : List ℕ → ℕ → Read Located
located_in s i = bind (read_sheet s) λ o c. listed_clock o.sheet i (get_elem? o.sheet.clocks i)
