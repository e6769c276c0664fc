-- Before the index stand figures, and from it on the bits that were there.
use Rattle.std.proofs.Common.{◌≡◌, ◌++◌, map, take, drop}
use Rattle.dump.specs.BitLine.{bit_figure}
use Rattle.dump.proofs.bits.to_figures.Given as goal

abbrev pub invariant-loop-bit : goal.invariant-loop-bit
invariant-loop-bit l = l.bits ≡ map bit_figure (take l.bit-index l.initial.bits) ++ drop l.bit-index l.initial.bits
