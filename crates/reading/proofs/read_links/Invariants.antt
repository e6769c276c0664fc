-- `read_links` meets its contract: the ends of the links so far are in their table, and the others stand at the cursor.
-- Assumes nothing.
use Rattle.std.proofs.Common.{◌≤◌}
use Rattle.sheet.specs.Sheet.{links_most}
use Rattle.sheet.specs.Reader.{link_at}
use Rattle.reading.specs.Inner.Sections.{ends_of}
use Rattle.reading.proofs.Sections.RowTables.{Stored}
use Rattle.reading.proofs.read_links.Given as goal

abbrev pub invariant-loop-i : goal.invariant-loop-i
invariant-loop-i l = record { few : l.many ≤ links_most; so_far : Stored (link_at l.s l.n) ends_of l.many l.i l.ends l.initial.c.at l.c.at }
