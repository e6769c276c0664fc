-- `offset_span` meets its contract: s is the span of the bits passed, j how many of them are 1.
-- Assumes nothing.
use mathlib.Core.Path.{◌≡◌}
use Prim.Native.Nat.{◌≤◌}
use Rattle.envelope.specs.Stream.{ones}
use Rattle.envelope.specs.Word.{bit_at}
use Rattle.word.specs.Inner.Span.{span_of}
use Rattle.word.proofs.offset_span.Given as goal

abbrev pub invariant-loop-t : goal.invariant-loop-t
invariant-loop-t l = record { few : l.j ≤ l.t; many : l.j ≡ ones (bit_at l.bits) l.t; is : l.s ≡ span_of (bit_at l.bits) l.l l.n l.t }
