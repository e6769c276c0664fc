-- `read_words` meets its contract: the words so far are in the table, and the others stand at the cursor.
-- Assumes nothing.
use Rattle.std.proofs.Common.{◌≤◌}
use Rattle.sheet.specs.Sheet.{words_most}
use Rattle.expression.specs.Evaluate.{word_node}
use Rattle.reading.proofs.Sections.RowTables.{Stored}
use Rattle.reading.proofs.Sections.WordTable.{word_row_at}
use Rattle.reading.proofs.read_words.Given as goal

abbrev pub invariant-loop-i : goal.invariant-loop-i
invariant-loop-i l = record { few : l.n ≤ words_most; so_far : Stored (word_row_at l.s) word_node l.n l.i l.table l.initial.c.at l.c.at }
