-- `pattern::fill` meets its contract. The loop's invariant: what is to be written is what stands before the index, and what is still to come.
-- Assumes nothing.
use Rattle.std.proofs.Common.{◌≡◌, ◌+◌, ◌-◌, ◌++◌, length, take}
use Rattle.judging.specs.Bytes.{longest}
use Rattle.judging.specs.Inner.Scan.{Near}
use Rattle.pattern.specs.Inner.Lifts.{filled}
use Rattle.pattern.proofs.fill.Given as goal

abbrev pub invariant-loop-bit : goal.invariant-loop-bit
invariant-loop-bit l = let n = length l.initial.rest in
    Near (longest - n + l.bit-index) l.d × (filled l.e l.start n ≡ take l.bit-index l.rest ++ filled l.e l.d (n - l.bit-index))
