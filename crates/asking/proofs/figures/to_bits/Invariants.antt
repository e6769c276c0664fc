-- Before the index stand bits, and from it on the text that was there.
use Rattle.std.proofs.Common.{◌≡◌, ◌++◌, map, take, drop}
use Rattle.asking.specs.Figures.{bit_of}
use Rattle.asking.proofs.figures.to_bits.Given as goal

abbrev pub invariant-loop-b : goal.invariant-loop-b
invariant-loop-b l = l.text ≡ map bit_of (take l.b-index l.initial.text) ++ drop l.b-index l.initial.text
