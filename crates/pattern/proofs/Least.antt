-- The successor is the least inside that is greater; where there is none, none inside is greater.
-- Assumes nothing.
use Prim.Native.Nat.{ℕ, zero, suc}
use native.Mathlib.Nat.{suc_inj, suc-ne-zero}
use native.Mathlib.Omega.{arith}
use mathlib.Core.Path.{◌≡◌, refl, sym, ap, subst}
use mathlib.Core.Logic.{◌⊎◌, inl, inr, ⊎_elim}
use mathlib.Core.Bool.{Bool, true, false}
use mathlib.Core.List.Memᴰ
use mathlib.Core.List.{List, [], ◌∷◌}
use mathlib.Core.Option.{Option, none, some}
use lib.ListN.{length}
use lib.Dec.{T}
use Rattle.envelope.proofs.Tests.{is_true, to_t}
use Rattle.pattern.specs.Pattern.{after, may, Inside, fill, raised, behind, next}
use Rattle.pattern.proofs.Lists.{Less}
use Rattle.pattern.proofs.Walking.{walked}

-- r is n or comes after it; where n is none, nothing does
abbrev pub From : Option (List ℕ) → List ℕ → Type 0
From none r = ⊥
From (some q) r = (q ≡ r) ⊎ Less q r

module _ (z o : ℕ → ℕ → Bool) where
  cons_from : (b : ℕ) (n : Option (List ℕ)) (r : List ℕ) (other : Option (List ℕ)) → From n r → From (behind b n other) (b ∷ r)
  cons_from b none r other h = absurd h
  cons_from b (some q) r other h = ⊎_elim (λ e. inl (ap (λ (t : List ℕ). b ∷ t) e)) (λ l. inr (inr (refl, l))) h

  fill_least : (r : List ℕ) (m i j : ℕ) → length r ≡ m → Inside z o i j r → From (some (fill z o i j m)) r
  fill_least [] zero i j e h = inl refl
  fill_least [] (suc m) i j e h = absurd (suc-ne-zero m (sym e))
  fill_least (b ∷ r) zero i j e h = absurd (suc-ne-zero (length r) e)
  fill_least (zero ∷ r) (suc m) i j e h =
      rw (is_true (z i j) h.0) (cons_from 0 (some (fill z o (suc i) j m)) r none (fill_least r m (suc i) j (suc_inj e) h.1))
  fill_least (suc zero ∷ r) (suc m) i j e h = go (z i j) refl (fill_least r m (suc i) (suc j) (suc_inj e) h.1)
    where
      go : (t : Bool) → z i j ≡ t → From (some (fill z o (suc i) (suc j) m)) r → From (some (fill z o i j (suc m))) (1 ∷ r)
      go true q ih = rw q (inr (inl (omega arith)))
      go false q ih = rw q (cons_from 1 (some (fill z o (suc i) (suc j) m)) r none ih)
  fill_least (suc (suc b) ∷ r) (suc m) i j e h = absurd h.0

  pub next_least : (p r : List ℕ) (i j : ℕ) → length r ≡ length p → Inside z o i j p → Inside z o i j r → Less p r → From (next z o i j p) r
  next_least [] r i j e hp hr l = absurd l
  next_least (a ∷ p) [] i j e hp hr l = absurd l
  next_least (zero ∷ p) (zero ∷ r) i j e hp hr l =
      cons_from 0 (next z o (suc i) j p) r (raised z o i j 0 (length p))
      (next_least p r (suc i) j (suc_inj e) hp.1 hr.1 (⊎_elim (λ f. absurd (omega arith)) (λ f. f.1) l))
  next_least (suc zero ∷ p) (suc zero ∷ r) i j e hp hr l =
      cons_from 1 (next z o (suc i) (suc j) p) r none
      (next_least p r (suc i) (suc j) (suc_inj e) hp.1 hr.1 (⊎_elim (λ f. absurd (omega arith)) (λ f. f.1) l))
  next_least (zero ∷ p) (suc zero ∷ r) i j e hp hr l = go (next z o (suc i) j p)
    where
      go : (n : Option (List ℕ)) → From (behind 0 n (raised z o i j 0 (length p))) (1 ∷ r)
      go (some q) = inr (inl (omega arith))
      go none = rw (is_true (o i j) hr.0) (cons_from 1 (some (fill z o (suc i) (suc j) (length p))) r none (fill_least r (length p) (suc i) (suc j) (suc_inj e) hr.1))
  next_least (suc zero ∷ p) (zero ∷ r) i j e hp hr l = absurd (⊎_elim (λ f. omega arith) (λ f. (let g = f.0 in omega arith)) l)
  next_least (suc (suc a) ∷ p) (b ∷ r) i j e hp hr l = absurd hp.0
  next_least (zero ∷ p) (suc (suc b) ∷ r) i j e hp hr l = absurd hr.0
  next_least (suc zero ∷ p) (suc (suc b) ∷ r) i j e hp hr l = absurd hr.0

  -- and it is greater
  pub next_greater : (p : List ℕ) (i j : ℕ) (q : List ℕ) → next z o i j p ≡ some q → Less p q
  next_greater [] i j q e = absurd (let w : ◌≡◌ {A = ℕ} 0 1 = cc in omega arith)
  next_greater (b ∷ p) i j q e = go (next z o (suc i) (after j b) p) refl (next_greater p (suc i) (after j b))
    where
      turned : (c : ℕ) (t : Bool) → o i j ≡ t → raised z o i j c (length p) ≡ some q → Less (c ∷ p) q
      turned zero true et er =
          let er' = rw et at er in
          let eq : suc zero ∷ fill z o (suc i) (suc j) (length p) ≡ q = cc in
          rw (← eq) (inl (omega arith))
      turned zero false et er =
          let er' = rw et at er in
          absurd (let w : ◌≡◌ {A = ℕ} 0 1 = cc in omega arith)
      turned (suc c) t et er = absurd (let w : ◌≡◌ {A = ℕ} 0 1 = cc in omega arith)

      go : (r : Option (List ℕ)) → next z o (suc i) (after j b) p ≡ r → ((r : List ℕ) → next z o (suc i) (after j b) p ≡ some r → Less p r) → Less (b ∷ p) q
      go none er ih = turned b (o i j) refl (rw er at e)
      go (some r) er ih =
          let e' = rw er at e in
          let eq : b ∷ r ≡ q = cc in
          rw (← eq) (inr (refl, ih r er))

  -- and it is inside
  module _ (Live : ℕ → ℕ → Type 0)
      (live_zero : (i j : ℕ) → Live i j → z i j ≡ true → Live (suc i) j)
      (live_one : (i j : ℕ) → Live i j → o i j ≡ true → Live (suc i) (suc j))
      (a_step : (i j : ℕ) → Live i j → z i j ≡ false → o i j ≡ true) where
    fill_inside : (m i j : ℕ) → Live i j → Inside z o i j (fill z o i j m)
    fill_inside m i j v = ((walked z o Live live_zero live_one a_step m i j v).only (fill z o i j m) (Memᴰ.head refl)).1

    live_after : (i j b : ℕ) → Live i j → T (may z o i j b) → Live (suc i) (after j b)
    live_after i j zero v t = live_zero i j v (is_true (z i j) t)
    live_after i j (suc zero) v t = live_one i j v (is_true (o i j) t)
    live_after i j (suc (suc b)) v t = absurd t

    pub next_inside : (p : List ℕ) (i j : ℕ) → Live i j → Inside z o i j p → (q : List ℕ) → next z o i j p ≡ some q → Inside z o i j q
    next_inside [] i j v h q e = absurd (let w : ◌≡◌ {A = ℕ} 0 1 = cc in omega arith)
    next_inside (b ∷ p) i j v h q e = go (next z o (suc i) (after j b) p) refl (next_inside p (suc i) (after j b) (live_after i j b v h.0) h.1)
      where
        turned : (c : ℕ) (t : Bool) → o i j ≡ t → raised z o i j c (length p) ≡ some q → Inside z o i j q
        turned zero true et er =
            let er' = rw et at er in
            let eq : suc zero ∷ fill z o (suc i) (suc j) (length p) ≡ q = cc in
            subst (Inside z o i j) eq (to_t (o i j) et, fill_inside (length p) (suc i) (suc j) (live_one i j v et))
        turned zero false et er =
            let er' = rw et at er in
            absurd (let w : ◌≡◌ {A = ℕ} 0 1 = cc in omega arith)
        turned (suc c) t et er = absurd (let w : ◌≡◌ {A = ℕ} 0 1 = cc in omega arith)

        go : (r : Option (List ℕ)) → next z o (suc i) (after j b) p ≡ r → ((r : List ℕ) → next z o (suc i) (after j b) p ≡ some r → Inside z o (suc i) (after j b) r) → Inside z o i j q
        go none er ih = turned b (o i j) refl (rw er at e)
        go (some r) er ih =
            let e' = rw er at e in
            let eq : b ∷ r ≡ q = cc in
            subst (Inside z o i j) eq (h.0, ih r er)
