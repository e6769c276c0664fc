-- `put` keeps the place within the buffer: the line ends there.
use Rattle.std.proofs.Common.{arith}
use Rattle.line.proofs.Puts.{put_at}
use Rattle.dump.proofs.BitLine.{bits_length}
use Rattle.patterns.proofs.Lines.put.Goals as goal

pub invariant_of-self : goal.invariant_of-self
invariant_of-self c = record { within = omega (arith, bits_length c.args.bits.now, put_at _ _ _ _ _ (omega arith) c.put_bits.ensures.put) }
