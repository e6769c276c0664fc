-- Where a rule makes a node, the node's envelope is the rule's, and it has room or keeps to the limits.
-- Assumes nothing.
use mathlib.Core.Path.{◌≡◌, refl}
use mathlib.Core.Bool.{Bool, true, false, cond}
use Prim.Native.Nat.{ℕ}
use Rattle.std.specs.Prelude.{Ok, Err}
use lib.IntN.{ℤ}
use lib.Dec.{eqb}
use borrow.Author.Tests.{eqb-false}
use Rattle.envelope.specs.declared.Envelope.{Envelope}
use Rattle.envelope.specs.declared.Node.{Node}
use Rattle.envelope.specs.declared.Flaw.{Flaw}
use Rattle.envelope.specs.declared.Flaw.TheVariants.{Empty, FullRate, Outgrown}
use Rattle.envelope.specs.Envelope.{Limits, within_limits, Room, has_room, normal_of, not_of, on_of}
use Rattle.envelope.specs.Made.{Made, node_of, declared_of, limited, negated_of, on_within_limits}
use Rattle.envelope.proofs.Tests.{within_limits_lem, room_true}

-- ---- a choice that came to a node
by_test : (b : Bool) (f : Flaw) {x y : Node} → cond b (Ok y) (Err f) ≡ Ok x → (b ≡ true) × (x ≡ y)
by_test true f h = (refl, cc)
by_test false f h = absurd (cc)

by_rate : (b : Bool) {x : Node} {m : Made} → cond b (Err FullRate) m ≡ Ok x → (b ≡ false) × (m ≡ Ok x)
by_rate true h = absurd (cc)
by_rate false h = (refl, h)

-- ---- the rules
module _ {x : Node} where
  pub declared_good : (k K : ℤ) (l n : ℕ) → declared_of k K l n ≡ Ok x → (x ≡ node_of (normal_of k K l n)) × Room (normal_of k K l n)
  unfolding declared_of
  declared_good k K l n h =
      let p = by_test (has_room (normal_of k K l n)) Empty h in
      (p.1, room_true (normal_of k K l n) p.0)

  pub limited_good : (e : Envelope) → limited e ≡ Ok x → (x ≡ node_of e) × Limits e
  unfolding limited
  limited_good e h =
      let p = by_test (within_limits e) Outgrown h in
      (p.1, within_limits_lem e p.0)

  pub negated_good : (e : Envelope) → negated_of e ≡ Ok x → (x ≡ node_of (not_of e)) × Limits (not_of e) × (e.l ≡ e.n → ⊥)
  unfolding negated_of
  negated_good e h =
      let p = by_rate (eqb e.l e.n) h in
      let q = limited_good (not_of e) p.1 in
      (q.0, q.1, eqb-false e.l e.n p.0)

  pub on_good : (e f : Envelope) → on_within_limits e f ≡ Ok x → (x ≡ node_of (on_of e f)) × Limits (on_of e f)
  unfolding on_within_limits
  on_good e f h = limited_good (on_of e f) h
