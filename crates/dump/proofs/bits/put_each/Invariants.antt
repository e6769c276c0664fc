-- `put_each` meets its contract: the figures of the other bits, put from here, give what all give.
use Rattle.std.proofs.Common.{◌≡◌, drop}
use Rattle.line.specs.Text.{put}
use Rattle.line.specs.Writing.{out_in}
use Rattle.dump.specs.BitLine.{bit_line}
use Rattle.dump.proofs.bits.put_each.Given as goal

abbrev pub invariant-loop-bit : goal.invariant-loop-bit
invariant-loop-bit l = record {
  same : l.out.bytes.ghost_name ≡ l.initial.out.bytes.ghost_name;
  going : put (out_in l.out) (bit_line (drop l.bit-index l.bits)) ≡ put (out_in l.initial.out) (bit_line l.bits);
}
