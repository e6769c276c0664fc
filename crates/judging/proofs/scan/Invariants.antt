-- `judging::scan` meets its contract. The loop's invariant: what is found from the start is what is found from place i on.
-- Assumes nothing.
use Rattle.std.proofs.Common.{◌≡◌, drop, pos}
use Rattle.judging.specs.Inner.Scan.{Near, scanned}
use Rattle.judging.proofs.scan.Given as goal

abbrev pub invariant-loop-i : goal.invariant-loop-i
invariant-loop-i l = Near l.i l.d × (scanned l.e 0 (pos 0) l.pattern ≡ scanned l.e l.i l.d (drop l.i l.pattern))
