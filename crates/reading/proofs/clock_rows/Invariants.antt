-- `clock_rows` meets its contract: the clocks so far are in the tables, and the others stand at the cursor.
-- Assumes nothing.
use Rattle.reading.proofs.Sections.ClockTable.{Kept}
use Rattle.reading.proofs.clock_rows.Given as goal

abbrev pub invariant-loop-i : goal.invariant-loop-i
invariant-loop-i l = Kept l.s l.words l.n l.i l.tables.nodes l.tables.states l.initial.c.at l.c.at
