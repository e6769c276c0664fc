-- `put_bytes` meets its contract: what is left, put from here, gives what all gives.
use Rattle.std.proofs.Common.{◌≡◌, drop}
use Rattle.line.specs.Text.{put}
use Rattle.line.specs.Writing.{out_in}
use Rattle.line.proofs.Writer.put_bytes.Given as goal

abbrev pub invariant-loop-b : goal.invariant-loop-b
invariant-loop-b l = record {
  same : l.self.bytes.ghost_name ≡ l.initial.self.bytes.ghost_name;
  going : put (out_in l.self) (drop l.b-index l.text) ≡ put (out_in l.initial.self) l.text;
}
