-- The test of any four numbers: whether they are a taken, normal envelope.
use Rattle.std.specs.Prelude.{Bool, ◌&&◌, not, leb, eqb}
use Rattle.whole.specs.Euclid.{gcd_of}
use Rattle.envelope.specs.declared.Envelope.{Envelope}
use Rattle.envelope.specs.Envelope.{within_limits, has_room, before_start}

-- "1 <= n <= l <= 1,000,000 ..", "K - k >= n - 1", "l and n have no common factor above 1", "k >= 0 at that rate"; else it is "no taken, normal envelope"
unfoldable pub is_taken : Envelope → Bool
is_taken e =
    within_limits e && leb 1 e.n && leb e.n e.l && has_room e && eqb (gcd_of e.l e.n) 1 && not (before_start e.k e.l e.n)
