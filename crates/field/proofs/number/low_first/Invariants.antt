-- What stands in v is what the bytes passed spell.
use mathlib.Core.Path.{◌≡◌}
use Prim.Native.Nat.{◌+◌, ◌-◌}
use Rattle.field.specs.Field.{low_first}
use Rattle.field.proofs.number.low_first.Given as goal

abbrev pub invariant-loop-i : goal.invariant-loop-i
invariant-loop-i l = l.v ≡ low_first (l.width - l.i) l.s (l.at + l.i)
