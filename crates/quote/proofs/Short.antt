-- A clock's expression is no longer than the sheet that it is a part of.
use mathlib.Core.List.{List}
use Prim.Native.Nat.{ℕ, ◌-◌, ◌≤◌}
use native.Mathlib.Omega.{arith}
use lib.ListN.{length, drop, length-take, length-drop}
use Rattle.field.specs.Read.{Read, Read.got, Read.refused}
use Rattle.register.specs.Quoting.{quoted_part}

pub part_short : (q : Read ℕ) (s : List ℕ) → length (quoted_part q s) ≤ length s
part_short (got from to) s = omega (arith, length-take (to - from) (drop from s), length-drop from s)
part_short (refused number place) s = omega arith
