-- The links' rows, from the tables that reading left, and what is given of them.
use Rattle.std.specs.Prelude.{◌≡◌, List, map, ℕ, ◌+◌, ◌≤◌, ◌<◌, ℤ, length, get_or, Result, Ok}
use Rattle.std.proofs.Math.Option.{some}
use Rattle.std.proofs.Math.ListN.{get_elem?}
use Rattle.envelope.specs.declared.Node.{Node}
use Rattle.link.specs.declared.Row.{Row}
use Rattle.link.specs.Link.{state_of, open_size_of}
use Rattle.sizing.specs.declared.Rooms.{Rooms}
use Rattle.reply.specs.declared.Refusal.{Refusal}
use Rattle.sizing.specs.declared.Totals.{Totals}
use Rattle.sheet.specs.Sheet.{Link, clocks_most, links_most}
use Rattle.sheet.specs.Reader.{read_sheet}
use Rattle.sheet.specs.SheetRead.{SheetRead}
use Rattle.sizing.specs.Rooms.{verdict_in, total, size_of_row}
use Rattle.sizing.specs.WorkOut.{room_for, reply_of, clocks_out, links_out}
use Rattle.field.specs.Spelling.{AllBytes}
use Rattle.reading.specs.declared.Found.{Found}
use Rattle.reading.specs.Inner.Sections.{state_of_clock, reading_of, Tabled}

abbrev pub row_at : List Node → List ℕ → Link → Row
row_at xs ss l =
    record {
      producer = l.producer;
      consumer = l.consumer;
      state = state_of (get_or ss l.producer 0) (get_or ss l.consumer 0);
      verdict = verdict_in xs l;
    }

abbrev pub rows_in : List Node → List ℕ → List Link → List Row
rows_in xs ss ls = map (row_at xs ss) ls

-- both sums over some rows, and over one more
abbrev pub rooms_over : List Row → Rooms
rooms_over rs = record { opened = total (map open_size_of rs); whole = total (map size_of_row rs) }

abbrev pub rooms_with : Rooms → Row → Rooms
rooms_with q r = record { opened = q.opened + open_size_of r; whole = q.whole + size_of_row r }

-- the clocks' nodes and states, and between them the links' ends
pub record Ready (t : List Node) (ss : List ℕ) (es : List Link) : Type 0 where
  pub many : length t ≡ length ss
  pub few_clocks : length ss ≤ clocks_most
  pub few_links : length es ≤ links_most
  pub there : (j : ℕ) (l : Link) → get_elem? es j ≡ some l → (l.producer < length ss) × (l.consumer < length ss)

-- a sheet's bytes, of which the reader found f and left the tables
pub record FoundIn (s : List ℕ) (f : Found) (t : List Node) (ss : List ℕ) (es : List Link) : Type 0 where
  pub bytes : AllBytes s
  pub told : reading_of (read_sheet s) ≡ Ok f
  pub tabled : Tabled (read_sheet s) t ss es

-- its clocks' nodes, states and links' ends stand in the tables
pub record InTables (o : SheetRead) (t : List Node) (ss : List ℕ) (es : List Link) : Type 0 where
  pub nodes : t ≡ o.table
  pub states : ss ≡ map state_of_clock o.sheet.clocks
  pub links : es ≡ o.sheet.links

-- what is given of a sheet that the tables show
abbrev pub Given : List Node → List ℕ → List Link → List ℤ → List ℤ → Result Totals Refusal → List ℤ → List ℤ → Type 0
Given t ss es clocks links r clocks_end links_end =
    (o : SheetRead) (c : ℕ)
    → InTables o t ss es
    → (r ≡ reply_of (room_for (length clocks) (length links) o c))
    × (clocks_end ≡ clocks_out (room_for (length clocks) (length links) o c) clocks)
    × (links_end ≡ links_out (room_for (length clocks) (length links) o c) links)
