-- `put_links` meets its contract: the links so far are put and summed up. Assumes nothing.
use mathlib.Core.Path.{◌≡◌}
use Rattle.sizing.proofs.Written.{Summed}
use Rattle.line.specs.Writing.{out_in}
use Rattle.report.proofs.LinkRows.{Going}
use Rattle.report.proofs.put_links.Given as goal

abbrev pub invariant-loop-i : goal.invariant-loop-i
invariant-loop-i l = record {
  same : l.out.bytes.ghost_name ≡ l.initial.out.bytes.ghost_name;
  going : Going l.rows.nodes.now l.rows.states.now l.rows.ends.now (out_in l.initial.out) l.i (out_in l.out);
  summed : Summed l.rows.nodes.now l.rows.states.now l.rows.ends.now l.i l.rooms;
}
