-- `bits` meets its contract: the bits that are left are counted on from the 1s so far.
-- Assumes nothing.
use mathlib.Core.Path.{◌≡◌}
use Prim.Native.Nat.{◌+◌, ◌-◌, ◌≤◌}
use Rattle.word.proofs.BitCounts.{counted}
use Rattle.word.proofs.bits.Given as goal

abbrev pub invariant-loop-i : goal.invariant-loop-i
invariant-loop-i l = record { few : l.ones ≤ l.i; so_far : counted l.n l.s 0 l.start.at ≡ counted (l.n - l.i) l.s l.ones (l.start.at + l.i) }
