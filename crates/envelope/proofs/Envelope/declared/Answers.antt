-- Made normal, the fields of a declared node keep to their limits, and with room they are taken.
use mathlib.Core.Path.{◌≡◌, sym, subst, ap₂, ◌∙◌}
use Prim.Native.Nat.{ℕ, ◌≤◌}
use native.Mathlib.Omega.{arith}
use lib.IntN.{ℤ}
use mir.Facts.{to_z-of_z}
use Rattle.envelope.specs.declared.Envelope.{Envelope}
use Rattle.envelope.specs.Limits.{l_most}
use Rattle.envelope.specs.Envelope.{Limits, Room, normal_of}
use Rattle.envelope.specs.Made.{Fields}
use Rattle.envelope.proofs.Declared.{normal_limits, normal_n}
use Rattle.envelope.proofs.Taken.{declared_taken}
use Rattle.envelope.proofs.Tests.{room_true}
use Rattle.envelope.proofs.Envelope.declared.Goals as goal
use Rattle.envelope.proofs.Envelope.declared.Goals.{After-normal-e}

ready : (k K : ℤ) (l n : ℕ) (e : Envelope) → Fields k K l n → e ≡ normal_of k K l n → Limits e × (1 ≤ e.n) × (e.n ≤ l_most)
ready k K l n e f p =
    let m = normal_limits k K l n f in
    let q = normal_n k K l n f in
    rw p (m, q.0, omega (arith, q.1, m.l_within))

made_normal : (c : After-normal-e) → c.normal-e.result ≡ normal_of c.args.k c.args.K c.args.l c.args.n
made_normal c = c.normal-e.ensures ∙ ap₂ (λ (x y : ℤ). normal_of x y c.args.l c.args.n) (to_z-of_z c.ranges.k) (to_z-of_z c.ranges.K)

pub has_room-requires : goal.has_room-requires
has_room-requires c = ready c.args.k c.args.K c.args.l c.args.n c.normal-e.result c.requires (made_normal (goal.at.has_room-requires c).After-normal-e)

pub returns-then-has_room-clause-taken : goal.returns-then-has_room-clause-taken
returns-then-has_room-clause-taken c =
    let is = made_normal (goal.at.returns-then-has_room-clause-taken c).After-normal-e in
    let room = room_true c.normal-e.result (sym c.has_room.ensures ∙ c.if-has_room.true) in
    rw is (declared_taken c.args.k c.args.K c.args.l c.args.n c.requires (subst Room is room))
