-- The range is tested before the room.
use mathlib.Core.Path.{sym, ◌∙◌}
use native.Mathlib.Omega.{arith}
use Rattle.envelope.proofs.Tests.{within_limits_lem}
use Rattle.envelope.proofs.Envelope.is_taken.Goals as goal

pub has_room-requires : goal.has_room-requires
has_room-requires c =
    let m = within_limits_lem c.args.self (sym c.within_limits.ensures ∙ c.if-self.true.0) in
    (m, c.if-self.true.1, omega (arith, m.l_within))
