-- Finding a clock without evaluating again: the expressions before it are skipped.
use Rattle.std.specs.Prelude.{◌≡◌, List, ℕ, ◌≤◌, length}
use Rattle.sheet.specs.Sheet.{Sheet, spell_sheet}
use Rattle.sheet.specs.Locating.{clock_place}

-- the bytes are those of a sheet that has i clocks, the first of them at `first`
pub record HasClocks (s : List ℕ) (first i : ℕ) (v : Sheet) : Type 0 where
  pub text : s ≡ spell_sheet v
  pub begins : first ≡ clock_place v 0
  pub many : i ≤ length v.clocks
