-- `put_hex` meets its contract: the figures of the other bytes, put from here, give what all give.
use Rattle.std.proofs.Common.{◌≡◌, drop}
use Rattle.line.specs.Text.{put}
use Rattle.line.specs.Writing.{out_in}
use Rattle.dump.specs.HexLine.{hex_line}
use Rattle.dump.proofs.hex.put_hex.Given as goal

abbrev pub invariant-loop-i : goal.invariant-loop-i
invariant-loop-i l = record {
  same : l.out.bytes.ghost_name ≡ l.initial.out.bytes.ghost_name;
  going : put (out_in l.out) (hex_line (drop l.i l.bytes)) ≡ put (out_in l.initial.out) (hex_line l.bytes);
}
