-- The other bytes, shown from here on, give what all give.
use Rattle.std.proofs.Common.{◌≡◌, map, drop}
use Rattle.line.specs.Text.{put}
use Rattle.line.specs.Writing.{out_in}
use Rattle.terminal.specs.Shown.{shown_byte}
use Rattle.terminal.proofs.complaint.put_name.Given as goal

abbrev pub invariant-loop-b : goal.invariant-loop-b
invariant-loop-b l = record {
  same : l.out.bytes.ghost_name ≡ l.initial.out.bytes.ghost_name;
  going : put (out_in l.out) (map shown_byte (drop l.b-index l.start)) ≡ put (out_in l.initial.out) (map shown_byte l.start);
}
