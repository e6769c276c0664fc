-- How many of a run's first bits are 1, and where the 1s stand.
-- Assumes nothing.
use mathlib.Core.Path.{◌≡◌, refl, sym, ap, ◌∙◌}
use mathlib.Core.Logic.{◌⊎◌, inl, inr}
use mathlib.Core.Bool.{Bool, true, false}
use Prim.Native.Nat.{ℕ, zero, suc, ◌+◌, ◌-◌, ◌≤◌, ◌<◌}
use native.Mathlib.Nat.{add-zero, add-suc, suc-add}
use native.Mathlib.Decide.{dec_lt}
use native.Mathlib.Omega.{arith}
use Rattle.whole.proofs.Order.{which}
use Rattle.envelope.specs.Stream.{value, ones}

module _ (b : ℕ → Bool) where
  pub ones_one : (t : ℕ) → b t ≡ true → ones b (suc t) ≡ ones b t + 1
  unfolding ones
  ones_one t e = ap (λ (x : Bool). ones b t + value x) e

  pub ones_zero : (t : ℕ) → b t ≡ false → ones b (suc t) ≡ ones b t
  unfolding ones
  ones_zero t e = ap (λ (x : Bool). ones b t + value x) e ∙ add-zero (ones b t)

  ones_step : (t : ℕ) → ones b t ≤ ones b (suc t)
  ones_step t = go (which (b t))
    where
      go : (b t ≡ true) ⊎ (b t ≡ false) → ones b t ≤ ones b (suc t)
      go (inl e) = omega (arith, ones_one t e)
      go (inr e) = omega (arith, ones_zero t e)

  ones_more : (t m : ℕ) → ones b t ≤ ones b (t + m)
  ones_more t zero = omega (arith, ap (ones b) (add-zero t))
  ones_more t (suc m) = omega (arith, ones_more t m, ones_step (t + m), ap (ones b) (add-suc t m))

  pub ones_mono : (t u : ℕ) → t ≤ u → ones b t ≤ ones b u
  ones_mono t u h =
      let e : t + (u - t) ≡ u = omega arith in
      omega (arith, ones_more t (u - t), ap (ones b) e)

  -- the first 1 from t on, where there is one m places on
  pub first : (m t : ℕ) → b (t + m) ≡ true → (u : ℕ) × (t ≤ u) × (b u ≡ true) × (ones b u ≡ ones b t)
  first zero t e = (t, omega arith, sym (ap b (add-zero t)) ∙ e, refl)
  first (suc m) t e = go (which (b t)) (first m (suc t) (ap b (suc-add t m ∙ sym (add-suc t m)) ∙ e))
    where
      go : (b t ≡ true) ⊎ (b t ≡ false) → (u : ℕ) × (suc t ≤ u) × (b u ≡ true) × (ones b u ≡ ones b (suc t)) → (u : ℕ) × (t ≤ u) × (b u ≡ true) × (ones b u ≡ ones b t)
      go (inl o) r = (t, omega arith, o, refl)
      go (inr o) r = (r.0, omega (arith, r.1), r.2, r.3 ∙ ones_zero t o)

  pub ones_none : ones b 0 ≡ 0
  unfolding ones
  ones_none = refl

  -- the 1 with v before it, where more than v of the first t are 1
  pub earlier : (t v : ℕ) → v < ones b t → (u : ℕ) × (u < t) × (b u ≡ true) × (ones b u ≡ v)
  earlier zero v h = absurd (omega (arith, ones_none))
  earlier (suc t) v h = go (dec_lt v (ones b t)) (λ p. earlier t v p)
    where
      same : ¬ (v < ones b t) → (b t ≡ true) ⊎ (b t ≡ false) → (u : ℕ) × (u < suc t) × (b u ≡ true) × (ones b u ≡ v)
      same f (inl e) = (t, omega arith, e, omega (arith, ones_one t e))
      same f (inr e) = absurd (omega (arith, ones_zero t e))

      wider : (u : ℕ) × (u < t) × (b u ≡ true) × (ones b u ≡ v) → (u : ℕ) × (u < suc t) × (b u ≡ true) × (ones b u ≡ v)
      wider r = (r.0, omega (arith, r.1), r.2, r.3)

      go : Dec (v < ones b t) → (v < ones b t → (u : ℕ) × (u < t) × (b u ≡ true) × (ones b u ≡ v)) → (u : ℕ) × (u < suc t) × (b u ≡ true) × (ones b u ≡ v)
      go (yes p) ih = wider (ih p)
      go (no f) ih = same f (which (b t))

  -- two 1s with as many before them are one
  pub ones_apart : (t u : ℕ) → b t ≡ true → t < u → ones b t < ones b u
  ones_apart t u e h = omega (arith, ones_one t e, ones_mono (suc t) u h)

  -- at most as many as places
  pub ones_most : (t : ℕ) → ones b t ≤ t
  ones_most zero = omega (arith, ones_none)
  ones_most (suc t) = go (which (b t)) (ones_most t)
    where
      go : (b t ≡ true) ⊎ (b t ≡ false) → ones b t ≤ t → ones b (suc t) ≤ suc t
      go (inl e) h = omega (arith, ones_one t e)
      go (inr e) h = omega (arith, ones_zero t e)

  -- at most as many more as places more
  pub ones_slow : (t m : ℕ) → ones b (t + m) ≤ ones b t + m
  ones_slow t zero =
      let e : t + 0 ≡ t = omega arith in
      omega (arith, ap (ones b) e)
  ones_slow t (suc m) = go (which (b (t + m))) (ones_slow t m)
    where
      e : t + suc m ≡ suc (t + m)
      e = omega arith

      go : (b (t + m) ≡ true) ⊎ (b (t + m) ≡ false) → ones b (t + m) ≤ ones b t + m → ones b (t + suc m) ≤ ones b t + suc m
      go (inl x) h = omega (arith, ap (ones b) e, ones_one (t + m) x)
      go (inr x) h = omega (arith, ap (ones b) e, ones_zero (t + m) x)

-- only the bits before t matter
module _ (a b : ℕ → Bool) (T : ℕ) (same : (t : ℕ) → t < T → a t ≡ b t) where
  pub same_ones : (t : ℕ) → t ≤ T → ones a t ≡ ones b t
  same_ones zero h = ones_none a ∙ sym (ones_none b)
  same_ones (suc t) h = go (which (b t)) (same t (omega arith)) (same_ones t (omega arith))
    where
      go : (b t ≡ true) ⊎ (b t ≡ false) → a t ≡ b t → ones a t ≡ ones b t → ones a (suc t) ≡ ones b (suc t)
      go (inl e) s h = omega (arith, h, ones_one b t e, ones_one a t (s ∙ e))
      go (inr e) s h = omega (arith, h, ones_zero b t e, ones_zero a t (s ∙ e))
