-- What a sweep finds: an offset is held as what it is above the floor, and within the room every step may be taken.
-- Assumes nothing.
use Rattle.std.proofs.Common.{◌≡◌, ℕ, zero, suc, ◌+◌, ◌-◌, ◌*◌, ◌%◌, ◌^◌, ◌≤◌, Bool, true, false, leb, List, length, length-drop, refl, [], ◌∷◌, take, drop, ℤ, pos, ◌+ℤ◌, ◌≤ℤ◌, sym, ap, ◌∙◌, subst, add-zero, mul-le-mul_left, mul-zero, zero-add, mul-one, mul-suc, arith}
use Rattle.std.proofs.Math.Seq.{take_all}
use Rattle.std.proofs.Math.Dec.{eqb-suc-zero}
use lib.Signed.{le_z, lt_z}
use Rattle.whole.proofs.Bridge.{up, down, sum, diff, whole_ext, lt_z_false, ≤ℤ-reads, ≤ℤ-shows}
use Rattle.envelope.specs.Limits.{l_most}
use Rattle.envelope.specs.declared.Envelope.{Envelope}
use Rattle.envelope.specs.Envelope.{Taken}
use Rattle.envelope.proofs.Held.{k_up, k_down, K_up, K_down}
use Rattle.envelope.proofs.Tests.{is_true}
use Rattle.judging.specs.Bytes.{plain}
use Rattle.judging.specs.Inner.Scan.{one_at, zero_at, may_at, step_of, offset_after, scanned, leading_of, floor_of}

module _ (e : Envelope) where
  -- ---- at x above the floor the bit b leads to y above it
  module _ (x y : ℕ) where
    pub on_floor : (b : ℕ) → b ≤ 1 → y + e.l * b ≡ x + e.n → pos y +ℤ floor_of e ≡ offset_after e (pos x +ℤ floor_of e) b
    on_floor zero bit on =
        whole_ext
        (omega (arith, sum (pos y) (floor_of e), sum (pos x) (floor_of e), sum (pos x +ℤ floor_of e) (pos e.n), mul-zero e.l))
    on_floor (suc zero) bit on =
        whole_ext
        (omega (arith, sum (pos y) (floor_of e), sum (pos x) (floor_of e), sum (pos x +ℤ floor_of e) (step_of e 1), diff (pos e.n) (pos e.l), mul-one e.l))
    on_floor (suc (suc b)) bit on = absurd (omega arith)

    -- within the room
    module _ (room : ℕ) (top : pos room +ℤ floor_of e ≡ e.K) (x_in : x ≤ room) (y_in : y ≤ room) where
      pub may_floor : (b : ℕ) → b ≤ 1 → y + e.l * b ≡ x + e.n → may_at e (pos x +ℤ floor_of e) b ≡ true
      unfolding one_at zero_at
      may_floor zero bit on =
          let on_top : ((pos x +ℤ floor_of e) +ℤ pos e.n) ≤ℤ e.K = ≤ℤ-shows (omega (arith, sum (pos x) (floor_of e), sum (pos x +ℤ floor_of e) (pos e.n), sum (pos room) (floor_of e), ap up top, ap down top, mul-zero e.l)) in
          is_true (zero_at e (pos x +ℤ floor_of e)) on_top.le
      may_floor (suc zero) bit on =
          let low : e.k ≤ℤ (pos x +ℤ floor_of e) = ≤ℤ-shows (omega (arith, sum (pos x) (floor_of e), sum e.k (step_of e 1), diff (pos e.n) (pos e.l), mul-one e.l)) in
          let high : (pos x +ℤ floor_of e) ≤ℤ e.K = ≤ℤ-shows (omega (arith, sum (pos x) (floor_of e), sum (pos room) (floor_of e), ap up top, ap down top)) in
          rw (is_true (le_z e.k (pos x +ℤ floor_of e)) low.le, is_true (le_z (pos x +ℤ floor_of e) e.K) high.le)
      may_floor (suc (suc b)) bit on = absurd (omega arith)

  -- ---- the 0s that a pattern begins with may be taken, where n times their number is at most K
  lead_on : (p : List ℕ) (i : ℕ) → pos (e.n * (i + leading_of p)) ≤ℤ e.K → scanned e i (pos (e.n * i)) p ≡ scanned e (i + leading_of p) (pos (e.n * (i + leading_of p))) (drop (leading_of p) p)
  unfolding zero_at
  lead_on [] i h = rw add-zero
  lead_on (suc b ∷ p) i h = rw (eqb-suc-zero b, add-zero)
  lead_on (zero ∷ p) i h =
      let t : i + (1 + leading_of p) ≡ suc i + leading_of p = omega arith in
      let s : 1 + leading_of p ≡ suc (leading_of p) = omega arith in
      let k : pos (e.n * (suc i + leading_of p)) ≤ℤ e.K = subst (λ (t : ℕ). pos (e.n * t) ≤ℤ e.K) t h in
      let more : e.n * suc i ≤ e.n * (suc i + leading_of p) = mul-le-mul_left e.n (omega arith) in
      let on : offset_after e (pos (e.n * i)) 0 ≡ pos (e.n * suc i) = whole_ext (omega (arith, sum (pos (e.n * i)) (pos e.n), mul-suc e.n i)) in
      let fits : offset_after e (pos (e.n * i)) 0 ≤ℤ e.K = rw on (≤ℤ-shows (omega (arith, ≤ℤ-reads k, more))) in
      rw (is_true (zero_at e (pos (e.n * i))) fits.le, on, t, s) (lead_on p (suc i) k)

  pub lead_from : (p : List ℕ) (t : ℕ) → t ≡ leading_of p → pos (e.n * t) ≤ℤ e.K → scanned e 0 (pos 0) p ≡ scanned e t (pos (e.n * t)) (drop t p)
  lead_from p t q h =
      let start : pos 0 ≡ pos (e.n * 0) = ap pos (sym (mul-zero e.n)) in
      let all : 0 + leading_of p ≡ t = zero-add (leading_of p) ∙ sym q in
      ap (λ (d : ℤ). scanned e 0 d p) start
      ∙ lead_on p 0 (subst (λ (k : ℕ). pos (e.n * k) ≤ℤ e.K) (sym all) h)
      ∙ ap (λ (k : ℕ). scanned e k (pos (e.n * k)) (drop (leading_of p) p)) all
      ∙ ap (λ (k : ℕ). scanned e t (pos (e.n * t)) (drop k p)) (sym q)

  -- ---- the room is small
  module _ (taken : Taken e) where
    pub room_small : (room : ℕ) → pos room +ℤ floor_of e ≡ e.K → room ≤ 2_001_000_000
    room_small room top =
        omega
        (arith, sum (pos room) (floor_of e), sum e.k (step_of e 1), diff (pos e.n) (pos e.l), ap up top, ap down top, taken.limits.l_within, k_down e taken.limits, k_up e taken.limits, K_up e taken.limits, K_down e taken.limits)

pub not_less : (x y : ℤ) → lt_z x y ≡ false → y ≤ℤ x
not_less x y q = ≤ℤ-shows (omega (arith, lt_z_false x y q))

-- a step of n - b and then the sum, both of which may wrap: a result that is small has not gone below 0
pub not_wrapped : (x b n : ℕ) → x ≤ 2_001_000_000 → b ≤ l_most → n ≤ l_most → (x + (n + (2 ^ 64 - b)) % 2 ^ 64) % 2 ^ 64 ≤ 2_001_000_000 → (x + (n + (2 ^ 64 - b)) % 2 ^ 64) % 2 ^ 64 + b ≡ x + n
not_wrapped x b n hx hb hn hr = omega arith

-- bits after some bits
pub plain_drop : (p : List ℕ) (t : ℕ) → length p ≤ plain p → length (drop t p) ≤ plain (drop t p)
plain_drop p zero h = h
plain_drop [] (suc t) h = omega arith
plain_drop (b ∷ p) (suc t) h = go (leb b 1) refl (plain_drop p t)
  where
    go : (x : Bool) → leb b 1 ≡ x → (length p ≤ plain p → length (drop t p) ≤ plain (drop t p)) → length (drop t p) ≤ plain (drop t p)
    go true q ih = let k = rw q at h in ih (omega arith)
    go false q ih = let k = rw q at h in absurd (omega arith)

pub rest_is : (p : List ℕ) (t : ℕ) → take (length p - t) (drop t p) ≡ drop t p
rest_is p t = take_all (length p - t) (drop t p) (omega (arith, length-drop t p))
