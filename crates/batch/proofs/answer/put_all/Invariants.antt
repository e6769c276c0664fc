-- `put_all` meets its contract: the numbers that are left, put from here, give what all give.
use Rattle.std.proofs.Common.{◌≡◌, drop}
use Rattle.line.specs.Text.{put}
use Rattle.line.specs.Writing.{out_in}
use Rattle.batch.specs.Numbers.{numbers_of}
use Rattle.batch.proofs.answer.put_all.Given as goal

abbrev pub invariant-loop-x : goal.invariant-loop-x
invariant-loop-x l = record {
  same : l.out.bytes.ghost_name ≡ l.initial.out.bytes.ghost_name;
  going : put (out_in l.out) (numbers_of (drop l.x-index l.numbers)) ≡ put (out_in l.initial.out) (numbers_of l.numbers);
}
