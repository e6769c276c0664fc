-- `judging::sweep` meets its contract. The loop's invariant: x is within the room, and what is scanned from there on is what is scanned from the start.
-- Assumes nothing.
use Rattle.std.proofs.Common.{◌≡◌, ℕ, ◌+◌, ◌≤◌, drop, pos, ◌+ℤ◌}
use Rattle.judging.specs.Inner.Scan.{scanned, floor_of}
use Rattle.judging.proofs.sweep.Given as goal

abbrev pub invariant-loop-b : goal.invariant-loop-b
invariant-loop-b l = (l.x ≤ l.room)
    × ((i : ℕ) → scanned l.e i (pos l.start +ℤ floor_of l.e) l.bits ≡ scanned l.e (i + l.b-index) (pos l.x +ℤ floor_of l.e) (drop l.b-index l.bits))
