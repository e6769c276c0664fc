-- What is proved of the listing, one field for each promise: of a text s of bytes.
use Rattle.std.specs.Prelude.{◌≡◌, List, ◌++◌, map, ℕ, ◌*◌, ◌≤◌, ℤ, length, take, Ok}
use Rattle.field.specs.Read.{Read, Read.got, Read.refused}
use Rattle.field.specs.Spelling.{AllBytes}
use Rattle.sheet.specs.Reader.{read_sheet}
use Rattle.sheet.specs.SheetRead.{SheetRead}
use Rattle.sizing.specs.declared.Totals.{Totals}
use Rattle.sizing.specs.Rooms.{rows_of, open_room, whole_room}
use Rattle.reading.specs.Inner.Sections.{state_of_clock}
use Rattle.sizing.specs.WorkOut.{worked_of, reply_of, clock_numbers, link_numbers, flatten, clocks_out, links_out}
use Rattle.line.specs.Text.{line_of}
use Rattle.line.specs.Letters.{letters}
use Rattle.report.specs.Listing.{room_fields, refused_line, clock_lines, link_lines, sheet_text, listing_most, listing_of}

-- a line for each clock, a line for each link, and the room line
abbrev pub sheet_lines : SheetRead → ℕ → ℕ → List ℕ
sheet_lines o opened whole =
    clock_lines 0 (map state_of_clock o.sheet.clocks) o.table ++ (link_lines 0 (rows_of o) ++ line_of (letters "room") (room_fields opened whole))

-- the listing shows what working the sheet out gives: w, with the slices `clocks` and `links` lent
pub record Shows (s : List ℕ) (o : SheetRead) (w : Read SheetRead) (clocks links : List ℤ) : Type 0 where
  pub totals : Totals
  pub told : reply_of w ≡ Ok totals
  -- the room line has the two rooms of the reply
  pub text : listing_of s ≡ sheet_lines o totals.opened totals.whole
  -- the clock lines have the k, K, l and n that are filled into the one slice
  pub clocks_are : take (4 * totals.clocks) (clocks_out w clocks) ≡ flatten clock_numbers o.table
  -- the link lines have the verdicts, sizes and states that are filled into the other
  pub links_are : take (3 * totals.links) (links_out w links) ≡ flatten link_numbers (rows_of o)

pub record Listing (s : List ℕ) : Type 0 where
  -- every sheet that is accepted is listed, line for line
  pub accepted : (o : SheetRead) (c : ℕ) → read_sheet s ≡ got o c → listing_of s ≡ sheet_lines o (open_room o) (whole_room o)
  -- and with the numbers that working it out gives
  pub worked_out : (clocks links : List ℤ) (o : SheetRead) (c : ℕ) → worked_of s (length clocks) (length links) ≡ got o c
      → Shows s o (worked_of s (length clocks) (length links)) clocks links
  -- a buffer of so many bytes has room for any
  pub most : AllBytes s → (o : SheetRead) (c : ℕ) → read_sheet s ≡ got o c → length (sheet_text o) ≤ listing_most
  -- "A refusal prints only `refused NUMBER at PLACE`."
  pub refused_only : (number place : ℕ) → read_sheet s ≡ refused number place → listing_of s ≡ refused_line number place
