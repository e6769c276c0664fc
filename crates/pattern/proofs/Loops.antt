-- One turn of each loop of a walk, as a law on lists.
-- Assumes nothing.
use Prim.Native.Nat.{ℕ, zero, suc, ◌+◌, ◌-◌, ◌≤◌, ◌<◌}
use native.Mathlib.Nat.{add-zero, zero-add, add-suc, suc-add}
use native.Mathlib.Numerals.{add-one}
use native.Mathlib.Omega.{arith}
use mathlib.Core.Path.{◌≡◌, refl, sym, ap, ◌∙◌}
use mathlib.Core.Bool.{Bool, true, false, cond}
use mathlib.Core.List.{List, [], ◌∷◌, ◌++◌, append-nil}
use lib.IntN.{ℤ, pos}
use lib.ListN.{length, take, drop, set, length-set, length-drop, drop_of_length-le}
use borrow.Rule.Slice.PartMut.{put_mid}
use lib.Seq.{take-suc-set, take_all, append_snoc}
use lib.Dec.{leb}
use borrow.Author.Tests.{leb-true}
use Rattle.std.specs.Prelude.{Option, Some, None}
use Rattle.envelope.specs.declared.Envelope.{Envelope}
use Rattle.pattern.specs.declared.Lift.{Lift}
use Rattle.judging.specs.Bytes.{plain}
use Rattle.judging.specs.Inner.Scan.{one_at, zero_at, offset_after}
use Rattle.pattern.specs.Inner.Lifts.{least_at, filled, reached, lifted, last_lift, lift_of}
use Rattle.pattern.proofs.Offsets.{on_injective}

-- ---- from the end: one bit less
reached_snoc : (e : Envelope) (q : List ℕ) (d : ℤ) (b : ℕ) → reached e d (q ++ (b ∷ [])) ≡ offset_after e (reached e d q) b
reached_snoc e [] d b = refl
reached_snoc e (c ∷ q) d b = reached_snoc e q (offset_after e d c) b

lift_snoc : (e : Envelope) (q : List ℕ) (i : ℕ) (d : ℤ) (m : Option Lift) (b : ℕ) → last_lift e i d m (q ++ (b ∷ [])) ≡ lifted e (i + length q) (reached e d q) (last_lift e i d m q) b
lift_snoc e [] i d m b = rw add-zero
lift_snoc e (c ∷ q) i d m b = rw (add-suc, ← suc-add) (lift_snoc e q (suc i) (offset_after e d c) (lifted e i d m c) b)

pub bits_snoc : (q : List ℕ) (b : ℕ) → length (q ++ (b ∷ [])) ≤ plain (q ++ (b ∷ [])) → (length q ≤ plain q) × (b ≤ 1)
bits_snoc [] b h = (omega arith, go (leb b 1) refl)
  where
    go : (t : Bool) → leb b 1 ≡ t → b ≤ 1
    go true k = leb-true b 1 k
    go false k = let f = rw k at h in absurd (omega arith)
bits_snoc (c ∷ q) b h = go (leb c 1) refl (bits_snoc q b)
  where
    go : (t : Bool) → leb c 1 ≡ t → (length (q ++ (b ∷ [])) ≤ plain (q ++ (b ∷ [])) → (length q ≤ plain q) × (b ≤ 1)) → (length (c ∷ q) ≤ plain (c ∷ q)) × (b ≤ 1)
    go true k ih =
        let f = rw k at h in
        let r = ih (omega arith) in
        (rw k (omega (arith, r.0)), r.1)
    go false k ih = let f = rw k at h in absurd (omega arith)

-- one bit back, from the bit b behind q, where the machine has the offsets d and then r
module _ (e : Envelope) (q : List ℕ) (b : ℕ) (d r : ℤ) (at_b : d ≡ reached e (pos 0) (q ++ (b ∷ []))) (back : offset_after e r b ≡ d) where
  pub offset_back : r ≡ reached e (pos 0) q
  offset_back = on_injective e r (reached e (pos 0) q) b (back ∙ at_b ∙ reached_snoc e q (pos 0) b)

  lift_back : lift_of e (q ++ (b ∷ [])) ≡ lifted e (length q) r (lift_of e q) b
  lift_back =
      lift_snoc e q 0 (pos 0) None b
      ∙ ap (λ (k : ℕ). lifted e k (reached e (pos 0) q) (lift_of e q) b) (zero-add (length q))
      ∙ ap (λ (z : ℤ). lifted e (length q) z (lift_of e q) b) (sym offset_back)

  -- it is a 0 that could be a 1
  pub lift_found : b ≡ 0 → one_at e r ≡ true → lift_of e (q ++ (b ∷ [])) ≡ Some (record { place = length q; offset = r })
  lift_found k h = lift_back ∙ (rw (k, h))

  -- it could not, or it is a 1
  pub lift_stays : (b ≡ 0 → one_at e r ≡ false) → lift_of e (q ++ (b ∷ [])) ≡ lift_of e q
  lift_stays f = lift_back ∙ go b refl
    where
      go : (c : ℕ) → b ≡ c → lifted e (length q) r (lift_of e q) c ≡ lift_of e q
      go zero k = rw (f k)
      go (suc c) k = refl

pub least_bit : (e : Envelope) (d : ℤ) → least_at e d ≤ 1
least_bit e d = go (zero_at e d)
  where
    go : (t : Bool) → cond t 0 1 ≤ 1
    go true = omega arith
    go false = omega arith

-- a turn that stores b, the smaller bit that may follow
module _ (e : Envelope) (p : List ℕ) (n i : ℕ) (d : ℤ) (b : ℕ) (length_is : length p ≡ n) (h : i < n) (is_least : b ≡ least_at e d) where
  pub fill_turn : (s : ℤ) → s ≡ offset_after e d b → take i p ++ filled e d (n - i) ≡ take (i + 1) (set p i b) ++ filled e s (n - (i + 1))
  fill_turn s es =
      let m : ℕ = n - (i + 1) in
      let q : n - i ≡ suc m = omega arith in
      let in_p : i < length p = omega arith in
      rw (q, ← is_least, es)
      (sym
      (ap (λ (r : List ℕ). r ++ filled e (offset_after e d b) m) (ap (λ (k : ℕ). take k (set p i b)) (add-one i) ∙ take-suc-set p i b in_p)
      ∙ append_snoc (take i p) b (filled e (offset_after e d b) m)))

pub fill_end : (e : Envelope) (p : List ℕ) (n i : ℕ) (d : ℤ) → length p ≡ n → n ≤ i → p ≡ take i p ++ filled e d (n - i)
fill_end e p n i d q h =
    let none : n - i ≡ 0 = omega arith in
    let full : length p ≤ i = omega arith in
    rw none (sym (append-nil (take i p) ∙ take_all i p full))

-- the bit at t becomes a 1: what is left behind it, and what stands where that becomes ys
module _ (p : List ℕ) (t : ℕ) where
  pub left_behind : length (take (length (set p t 1) - (t + 1)) (drop (t + 1) (set p t 1))) ≡ length p - suc t
  left_behind =
      let all : length (drop (t + 1) (set p t 1)) ≤ length (set p t 1) - (t + 1) = omega (arith, length-drop (t + 1) (set p t 1)) in
      rw (take_all (length (set p t 1) - (t + 1)) (drop (t + 1) (set p t 1)) all) (omega (arith, length-drop (t + 1) (set p t 1), length-set p t 1))

  pub raised : (ys : List ℕ) → t < length p → put_mid (t + 1) (length (set p t 1) - (t + 1)) (set p t 1) ys ≡ take t p ++ (1 ∷ ys)
  raised ys h =
      let past : length (drop (t + 1) (set p t 1)) ≤ length (set p t 1) - (t + 1) = omega (arith, length-drop (t + 1) (set p t 1)) in
      rw (drop_of_length-le (drop (t + 1) (set p t 1)) past, append-nil, add-one, take-suc-set p t 1 h) (append_snoc (take t p) 1 ys)
