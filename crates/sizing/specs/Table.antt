-- "Reply numbers" of working out: which refusal a text gives, and where, without a reader.
use Rattle.std.specs.Prelude.{◌⊎◌, List, ℕ, ◌*◌, ◌<◌, length}
use Rattle.sheet.specs.SheetRead.{SheetRead}
use Rattle.sheet.specs.Format.{Refused, Passed}

-- "Reply numbers", 1 to 11, where so many numbers are lent for the clocks and so many for the links
pub data WorkRefused (s : List ℕ) (clocks links : ℕ) : ℕ → ℕ → Type 0 where
  in_sheet : {number place : ℕ} → Refused s number place → WorkRefused s clocks links number place
  -- 11: "a lent result slice is too short": 0. "11 comes after the whole sheet has passed."
  too_short : (o : SheetRead) → Passed s o → (clocks < 4 * length o.table) ⊎ (links < 3 * length o.sheet.links) → WorkRefused s clocks links 11 0
