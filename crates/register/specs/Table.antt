-- "Reply numbers", 16 and 17: which refusal closing and quoting a clock of a sheet get, and where. "Closing: 1 to 10, 16, 17."
use Rattle.std.specs.Prelude.{◌≡◌, List, ℕ, ◌≤◌, length}
use Rattle.std.proofs.Math.Option.{some}
use Rattle.std.proofs.Math.ListN.{get_elem?}
use Rattle.expression.specs.Expression.{Clock}
use Rattle.sheet.specs.SheetRead.{SheetRead}
use Rattle.sheet.specs.Format.{Refused, Passed}

-- clock i is there, with that mark: "0 open, 1 closed"
abbrev pub HasMark : SheetRead → ℕ → ℕ → Type 0
HasMark o i mark = (k : Clock) × (get_elem? o.sheet.clocks i ≡ some k) × (k.state ≡ mark)

-- quoting clock i: "1 to 10 or 16"
pub data QuoteRefused (s : List ℕ) (i : ℕ) : ℕ → ℕ → Type 0 where
  in_sheet : {number place : ℕ} → Refused s number place → QuoteRefused s i number place
  -- "no such clock": 0
  no_such_clock : (o : SheetRead) → Passed s o → length o.sheet.clocks ≤ i → QuoteRefused s i 16 0

-- closing it
pub data CloseRefused (s : List ℕ) (i : ℕ) : ℕ → ℕ → Type 0 where
  unquoted : {number place : ℕ} → QuoteRefused s i number place → CloseRefused s i number place
  -- "clock already closed": 0
  already : (o : SheetRead) → Passed s o → HasMark o i 1 → CloseRefused s i 17 0
