-- The bytes that are left, put from here on, give what is to be put from the start.
use mathlib.Core.Path.{◌≡◌}
use Prim.Native.Nat.{◌-◌}
use lib.Seq.{sets}
use Rattle.field.specs.Spelling.{bytes_of}
use Rattle.field.proofs.number.put_low_first.Given as goal

abbrev pub invariant-loop-byte : goal.invariant-loop-byte
invariant-loop-byte l = sets l.byte-items l.byte-index (bytes_of (l.width - l.byte-index) l.rest) ≡ sets l.initial.byte-items 0 (bytes_of l.width l.x)
