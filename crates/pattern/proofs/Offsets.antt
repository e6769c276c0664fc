-- The offset n*i - l*j of a place decides which bit may follow it, and is carried along by sums.
-- Assumes nothing.
use Prim.Native.Nat.{ℕ, zero, suc, ◌+◌, ◌*◌, ◌≤◌}
use native.Mathlib.Nat.{mul-suc, mul-zero, add-zero, zero-add, add-suc, suc-add}
use native.Mathlib.Omega.{arith}
use mathlib.Core.Path.{◌≡◌, refl, ap, ap₂}
use mathlib.Core.Bool.{◌&&◌}
use mathlib.Core.List.{List, [], ◌∷◌}
use lib.ListN.{length}
use lib.IntN.{ℤ, pos, ◌+ℤ◌, ◌-ℤ◌}
use Rattle.whole.proofs.Bridge.{up, down, sum, diff, whole_ext}
use Rattle.envelope.specs.declared.Envelope.{Envelope}
use Rattle.envelope.specs.Envelope.{Taken}
use Rattle.pattern.specs.Step.{low, high, one_may, zero_may}
use Rattle.pattern.specs.Pattern.{after, may, least, fill}
use Rattle.judging.specs.Inner.Scan.{Near, one_at, zero_at, may_at, step_of, offset_after}
use Rattle.pattern.specs.Inner.Lifts.{filled, reached}
use Rattle.judging.proofs.Offsets.{le_z_same, near_start, near_on}

module _ (e : Envelope) where
  -- the offset of a place with i bits behind and j of them 1
  abbrev pub offset_of : ℕ → ℕ → ℤ
  offset_of i j = pos (e.n * i) -ℤ pos (e.l * j)

  pub offset_start : offset_of 0 0 ≡ pos 0
  offset_start = whole_ext (omega (arith, diff (pos (e.n * 0)) (pos (e.l * 0)), mul-zero e.n, mul-zero e.l))

  pub onward_is : (i j b : ℕ) → offset_after e (offset_of i j) b ≡ offset_of (suc i) (after j b)
  onward_is i j zero =
      whole_ext
      (omega (arith, diff (pos (e.n * i)) (pos (e.l * j)), diff (pos (e.n * suc i)) (pos (e.l * j)), sum (offset_of i j) (pos e.n), mul-suc e.n i))
  onward_is i j (suc b) =
      whole_ext
      (omega (arith, diff (pos (e.n * i)) (pos (e.l * j)), diff (pos (e.n * suc i)) (pos (e.l * suc j)), sum (offset_of i j) (step_of e 1), diff (pos e.n) (pos e.l), mul-suc e.n i, mul-suc e.l j))

  pub one_is : (i j : ℕ) → one_may e i j ≡ one_at e (offset_of i j)
  unfolding one_may low high one_at
  one_is i j =
      let d = diff (pos (e.n * i)) (pos (e.l * j)) in
      let s = sum (pos (e.l * j)) e.k in
      let t = sum (pos (e.l * j)) e.K in
      ap₂ ◌&&◌
      (le_z_same (pos (e.l * j) +ℤ e.k) (pos (e.n * i)) e.k (offset_of i j) (λ h. omega (arith, d, s)) (λ h. omega (arith, d, s)))
      (le_z_same (pos (e.n * i)) (pos (e.l * j) +ℤ e.K) (offset_of i j) e.K (λ h. omega (arith, d, t)) (λ h. omega (arith, d, t)))

  pub zero_is : (i j : ℕ) → zero_may e i j ≡ zero_at e (offset_of i j)
  unfolding zero_may high zero_at
  zero_is i j =
      let d = diff (pos (e.n * i)) (pos (e.l * j)) in
      let s = sum (offset_of i j) (pos e.n) in
      let t = sum (pos (e.l * j)) e.K in
      let m = mul-suc e.n i in
      le_z_same (pos (e.n * suc i)) (pos (e.l * j) +ℤ e.K) (offset_of i j +ℤ pos e.n) e.K (λ h. omega (arith, d, s, t, m)) (λ h. omega (arith, d, s, t, m))

  pub may_is : (i j b : ℕ) → b ≤ 1 → may (zero_may e) (one_may e) i j b ≡ may_at e (offset_of i j) b
  may_is i j zero h = zero_is i j
  may_is i j (suc zero) h = one_is i j
  may_is i j (suc (suc b)) h = absurd (omega arith)

  pub filled_is : (m i j : ℕ) → filled e (offset_of i j) m ≡ fill (zero_may e) (one_may e) i j m
  filled_is zero i j = refl
  filled_is (suc m) i j =
      let b : ℕ = least (zero_may e) (one_may e) i j in
      rw (← zero_is i j, onward_is i j b) (ap (λ (r : List ℕ). b ∷ r) (filled_is m (suc i) (after j b)))

-- ---- how far the offset past some bits is from 0
near_from : (e : Envelope) → Taken e → (p : List ℕ) (i : ℕ) (d : ℤ) → Near i d → Near (i + length p) (reached e d p)
near_from e t [] i d v = rw add-zero v
near_from e t (b ∷ p) i d v = rw (add-suc, ← suc-add) (near_from e t p (suc i) (offset_after e d b) (near_on e t i d b v))

pub near_reached : (e : Envelope) → Taken e → (p : List ℕ) → Near (length p) (reached e (pos 0) p)
near_reached e t p = rw zero-add at (near_from e t p 0 (pos 0) near_start)

-- ---- a step on leads to one offset from one alone
pub on_injective : (e : Envelope) (x y : ℤ) (b : ℕ) → offset_after e x b ≡ offset_after e y b → x ≡ y
on_injective e x y b q =
    whole_ext (omega (arith, sum x (step_of e b), sum y (step_of e b), ap up q, ap down q))
