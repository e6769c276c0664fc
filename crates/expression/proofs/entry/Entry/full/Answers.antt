-- The test takes full rate.
use mathlib.Core.Path.{refl}
use lib.IntN.{pos}
use Rattle.whole.specs.Euclid.{euclid, gcd_of}
use Rattle.envelope.specs.Envelope.{numbers, within_limits, has_room, before_start}
use Rattle.envelope.specs.Inner.Tests.{is_taken}
use Rattle.envelope.proofs.Tests.{is_taken_lem}
use Rattle.expression.proofs.entry.Entry.full.Goals as goal

pub invariant_of-result : goal.invariant_of-result
unfolding is_taken within_limits has_room before_start gcd_of euclid
invariant_of-result c = is_taken_lem (numbers (pos 0) (pos 0) 1 1) refl
