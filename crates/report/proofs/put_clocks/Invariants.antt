-- `put_clocks` meets its contract: the lines of the other clocks, put from here, give what all give. Assumes nothing.
use mathlib.Core.Path.{◌≡◌}
use Rattle.line.specs.Text.{put}
use Rattle.line.specs.Writing.{out_in}
use Rattle.report.proofs.ClockRows.{clocks_from}
use Rattle.report.proofs.put_clocks.Given as goal

abbrev pub invariant-loop-i : goal.invariant-loop-i
invariant-loop-i l = record {
  same : l.out.bytes.ghost_name ≡ l.initial.out.bytes.ghost_name;
  going : put (out_in l.out) (clocks_from l.rows.nodes.now l.rows.states.now l.i) ≡ put (out_in l.initial.out) (clocks_from l.rows.nodes.now l.rows.states.now 0);
}
