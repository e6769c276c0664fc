-- What each test says of four numbers: it passes exactly where the facts that it tests hold.
-- Assumes nothing.
use mathlib.Core.Path.{◌≡◌, refl, sym, ◌∙◌}
use mathlib.Core.Bool.{Bool, true, false, ◌&&◌, not, false≢true}
use lib.Signed.{◌≤ℤ◌, ◌<ℤ◌, le_z, lt_z}
use lib.IntN.{ℤ, pos}
use Prim.Native.Nat.{ℕ}
use native.Mathlib.Omega.{arith}
use lib.Dec.{T, leb, eqb}
use borrow.Author.Tests.{leb-true, eqb-true, le-leb, eq-eqb}
use Rattle.std.proofs.lemmas.Bool.{not-true}
use Rattle.whole.specs.Euclid.{gcd_of}
use Rattle.whole.proofs.Bridge.{lt_z_true, lt_z_false, ≤ℤ-shows, <ℤ-shows, orders}
use Rattle.envelope.specs.declared.Envelope.{Envelope}
use Rattle.envelope.specs.Limits.{l_most, lower_least, lower_most, upper_least, upper_most}
use Rattle.envelope.specs.Envelope.{Limits, within_limits, Room, has_room, Taken, before_start}
use Rattle.envelope.specs.Inner.Tests.{is_taken}

-- ---- a test that passed
pub is_true : (b : Bool) → T b → b ≡ true
is_true true t = refl
is_true false t = absurd t

pub to_t : (b : Bool) → b ≡ true → T b
to_t b e = rw e tt

pub both_true : (a b : Bool) → (a && b) ≡ true → (a ≡ true) × (b ≡ true)
both_true true b h = (refl, h)
both_true false b h = absurd (false≢true h)

-- an order, from its test
shown : (x y : ℤ) → le_z x y ≡ true → x ≤ℤ y
shown x y h = record { le = to_t (le_z x y) h }

-- and the test, from the order
met : (x y : ℤ) → x ≤ℤ y → le_z x y ≡ true
met x y h = is_true (le_z x y) h.le

-- ---- the start of a stream: an edge lies before it where it is below 0 at l = n = 1
pub is_before : (k : ℤ) (l n : ℕ) → before_start k l n ≡ true → (l ≡ 1) × (n ≡ 1) × (k <ℤ pos 0)
unfolding before_start
is_before k l n h =
    let a = both_true (eqb l 1 && eqb n 1) (lt_z k (pos 0)) h in
    let b = both_true (eqb l 1) (eqb n 1) a.0 in
    (eqb-true l 1 b.0, eqb-true n 1 b.1, <ℤ-shows (lt_z_true k (pos 0) a.1))

pub not_before : (k : ℤ) (l n : ℕ) → before_start k l n ≡ false → l ≡ 1 → n ≡ 1 → pos 0 ≤ℤ k
unfolding before_start
not_before k l n h p q = ≤ℤ-shows (lt_z_false k (pos 0) (sym (rw (eq-eqb l 1 p, eq-eqb n 1 q) refl) ∙ h))

in_time : (k : ℤ) (l n : ℕ) → (l ≡ 1 → n ≡ 1 → pos 0 ≤ℤ k) → before_start k l n ≡ false
in_time k l n h = go (before_start k l n) refl
  where
    go : (b : Bool) → before_start k l n ≡ b → b ≡ false
    go false e = refl
    go true e = let s = is_before k l n e in absurd (omega (arith, orders, s.2, h s.0 s.1))

-- ---- the tests of an envelope
module _ (e : Envelope) where
  -- k, K and l
  pub within_limits_lem : within_limits e ≡ true → Limits e
  unfolding within_limits
  within_limits_lem h =
      let l = both_true _ (leb e.l l_most) h in
      let K = both_true _ (le_z e.K upper_most) l.0 in
      let K₀ = both_true _ (le_z upper_least e.K) K.0 in
      let k = both_true (le_z lower_least e.k) (le_z e.k lower_most) K₀.0 in
      record {
        l_within = leb-true e.l l_most l.1;
        k_least = shown _ _ k.0;
        k_most = shown _ _ k.1;
        K_least = shown _ _ K₀.1;
        K_most = shown _ _ K.1;
      }

  limits_within : Limits e → within_limits e ≡ true
  unfolding within_limits
  limits_within h =
      rw (met _ _ h.k_least, met _ _ h.k_most, met _ _ h.K_least, met _ _ h.K_most) (le-leb _ _ h.l_within)

  -- the room
  pub room_true : has_room e ≡ true → Room e
  unfolding has_room
  room_true h = shown _ _ h

  true_room : Room e → has_room e ≡ true
  unfolding has_room
  true_room h = met _ _ h

  -- all of them
  pub is_taken_lem : is_taken e ≡ true → Taken e
  unfolding is_taken
  is_taken_lem h =
      let s = both_true _ (not (before_start e.k e.l e.n)) h in
      let g = both_true _ (eqb (gcd_of e.l e.n) 1) s.0 in
      let r = both_true _ (has_room e) g.0 in
      let n = both_true _ (leb e.n e.l) r.0 in
      let m = both_true (within_limits e) (leb 1 e.n) n.0 in
      record {
        normal = eqb-true _ _ g.1;
        n_least = leb-true _ _ m.1;
        n_most = leb-true _ _ n.1;
        limits = within_limits_lem m.0;
        room = room_true r.1;
        at_rate_one = not_before e.k e.l e.n (not-true _ s.1);
      }

  pub taken_is : Taken e → is_taken e ≡ true
  unfolding is_taken
  taken_is t =
      rw (limits_within t.limits, le-leb _ _ t.n_least, le-leb _ _ t.n_most, true_room t.room, eq-eqb _ _ t.normal, in_time e.k e.l e.n t.at_rate_one) refl
