-- "Reply numbers", 1 to 11, of a listing into a buffer of so many bytes.
use Rattle.std.specs.Prelude.{List, ℕ, ◌<◌, length}
use Rattle.sheet.specs.SheetRead.{SheetRead}
use Rattle.sheet.specs.Format.{Refused, Passed}
use Rattle.report.specs.Listing.{sheet_text}

pub data ListRefused (s : List ℕ) (room : ℕ) : ℕ → ℕ → Type 0 where
  in_sheet : {number place : ℕ} → Refused s number place → ListRefused s room number place
  -- 11: "a lent result slice is too short": 0
  too_short : (o : SheetRead) → Passed s o → room < length (sheet_text o) → ListRefused s room 11 0
