-- The walk, over any two tests and any notion of a live place from which a step may always be taken. Assumes nothing.
use Prim.Native.Nat.{ℕ, zero, suc}
use native.Mathlib.Nat.{suc_inj, suc-ne-zero}
use native.Mathlib.Omega.{arith}
use mathlib.Core.Path.{◌≡◌, refl, sym, ap, subst, ◌∙◌}
use mathlib.Core.Logic.{⊎_elim}
use mathlib.Core.Bool.{Bool, true, false, false≢true}
use mathlib.Core.List.Memᴰ
use mathlib.Core.List.{List, [], ◌∷◌, ◌++◌, map, Memᴰ}
use mathlib.Core.Option.{Option, none, some}
use lib.ListN.{length}
use Rattle.envelope.proofs.Tests.{to_t}
use Rattle.pattern.specs.Pattern.{after, Inside, least, fill, raised, next}
use Rattle.pattern.proofs.Lists.{Rising, Below, Follows, rising_map, rising_zeros, zero_below}

module _ (z o : ℕ → ℕ → Bool) where
  pub fill_length : (m i j : ℕ) → length (fill z o i j m) ≡ m
  fill_length zero i j = refl
  fill_length (suc m) i j = ap suc (fill_length m (suc i) (after j (least z o i j)))

  pub next_length : (p : List ℕ) (i j : ℕ) (q : List ℕ) → next z o i j p ≡ some q → length q ≡ length p
  next_length [] i j q e = let w : ◌≡◌ {A = ℕ} 0 1 = cc in omega arith
  next_length (b ∷ p) i j q e = go (next z o (suc i) (after j b) p) refl (λ r er. next_length p (suc i) (after j b) r er)
    where
      turned : (c : ℕ) (t : Bool) → o i j ≡ t → raised z o i j c (length p) ≡ some q → length q ≡ suc (length p)
      turned zero true et er =
          let er' = rw et at er in
          let eq : suc zero ∷ fill z o (suc i) (suc j) (length p) ≡ q = cc in
          rw (← eq) (ap suc (fill_length (length p) (suc i) (suc j)))
      turned zero false et er =
          let er' = rw et at er in
          let w : ◌≡◌ {A = ℕ} 0 1 = cc in
          omega arith
      turned (suc c) t et er = let w : ◌≡◌ {A = ℕ} 0 1 = cc in omega arith

      go : (r : Option (List ℕ)) → next z o (suc i) (after j b) p ≡ r → ((r : List ℕ) → next z o (suc i) (after j b) p ≡ some r → length r ≡ length p) → length q ≡ suc (length p)
      go none er ih = turned b (o i j) refl (rw er at e)
      go (some r) er ih =
          let e' = rw er at e in
          let eq : b ∷ r ≡ q = cc in
          rw (← eq) (ap suc (ih r er))

  -- ---- following
  follows_one : (i j : ℕ) (p : List ℕ) (ps : List (List ℕ)) → Follows (next z o (suc i) (suc j)) p ps → Follows (next z o i j) (1 ∷ p) (map (λ (q : List ℕ). 1 ∷ q) ps)
  follows_one i j p [] h = rw h
  follows_one i j p (q ∷ qs) h = (rw h.0, follows_one i j q qs h.1)

  follows_zero : (i j m : ℕ) (tl : List (List ℕ)) → ((p : List ℕ) → length p ≡ m → next z o (suc i) j p ≡ none → Follows (next z o i j) (0 ∷ p) tl)
      → (p : List ℕ) (ps : List (List ℕ)) → length p ≡ m → Follows (next z o (suc i) j) p ps → Follows (next z o i j) (0 ∷ p) (map (λ (q : List ℕ). 0 ∷ q) ps ++ tl)
  follows_zero i j m tl end p [] e h = end p e h
  follows_zero i j m tl end p (q ∷ qs) e h = (rw h.0, follows_zero i j m tl end q qs (next_length p (suc i) j q h.0 ∙ e) h.1)

  -- the walk from `start`, of what may follow the place (i, j) in m steps
  pub record Walked (i j m : ℕ) (start : List ℕ) : Type 0 where
    pub rest : List (List ℕ)
    pub follows : Follows (next z o i j) start rest
    pub rising : Rising (start ∷ rest)
    pub only : (q : List ℕ) → Memᴰ q (start ∷ rest) → (length q ≡ m) × Inside z o i j q
    pub every : (q : List ℕ) → length q ≡ m → Inside z o i j q → Memᴰ q (start ∷ rest)

  -- what a walk has after its last pattern that begins with 0
  record Ones (i j m : ℕ) : Type 0 where
    tail : List (List ℕ)
    end : (p : List ℕ) → length p ≡ m → next z o (suc i) j p ≡ none → Follows (next z o i j) (0 ∷ p) tail
    rising : Rising tail
    below : (p : List ℕ) → Below (0 ∷ p) tail
    only : (q : List ℕ) → Memᴰ q tail → (length q ≡ suc m) × Inside z o i j q
    every : (q : List ℕ) → length q ≡ m → Inside z o i j (1 ∷ q) → Memᴰ (1 ∷ q) tail

  ones_none : (i j m : ℕ) → o i j ≡ false → Ones i j m
  ones_none i j m eo = record {
    tail = [];
    end = λ p e h. rw (h, eo);
    rising = tt;
    below = λ p. tt;
    only = λ q h. absurd (Memᴰ.not-nil h);
    every = λ q e h. absurd (rw eo at h.0);
  }

  ones_some : (i j m : ℕ) → o i j ≡ true → Walked (suc i) (suc j) m (fill z o (suc i) (suc j) m) → Ones i j m
  ones_some i j m eo w = record {
    tail = map (λ (q : List ℕ). 1 ∷ q) (fill z o (suc i) (suc j) m ∷ w.rest);
    end = λ p e h. (rw (h, eo, e), follows_one i j (fill z o (suc i) (suc j) m) w.rest w.follows);
    rising = rising_map 1 (fill z o (suc i) (suc j) m ∷ w.rest) w.rising;
    below = λ p. zero_below p (fill z o (suc i) (suc j) m ∷ w.rest);
    only = λ q h. one_only q (Memᴰ.of_map (λ (q : List ℕ). 1 ∷ q) (fill z o (suc i) (suc j) m ∷ w.rest) h);
    every = λ q e h. Memᴰ.map (λ (q : List ℕ). 1 ∷ q) (w.every q e h.1);
  }
    where
      one_only : (q : List ℕ) → (a : List ℕ) × Memᴰ a (fill z o (suc i) (suc j) m ∷ w.rest) × (1 ∷ a ≡ q) → (length q ≡ suc m) × Inside z o i j q
      one_only q h = subst (λ (q : List ℕ). (length q ≡ suc m) × Inside z o i j q) h.2 (ap suc (w.only h.0 h.1).0, (to_t (o i j) eo, (w.only h.0 h.1).1))

  -- the two cases of a live place: a 0 may follow, or only a 1
  walked_zero : (i j m : ℕ) → z i j ≡ true → Walked (suc i) j m (fill z o (suc i) j m) → Ones i j m → Walked i j (suc m) (0 ∷ fill z o (suc i) j m)
  walked_zero i j m ez w t = record {
    rest = map (λ (q : List ℕ). 0 ∷ q) w.rest ++ t.tail;
    follows = follows_zero i j m t.tail t.end f w.rest (fill_length m (suc i) j) w.follows;
    rising = rising_zeros (f ∷ w.rest) t.tail w.rising t.rising t.below;
    only = λ q h. ⊎_elim (λ g. zero_only q (Memᴰ.of_map (λ (q : List ℕ). 0 ∷ q) (f ∷ w.rest) g)) (t.only q) (Memᴰ.append_cases (map (λ (q : List ℕ). 0 ∷ q) (f ∷ w.rest)) h);
    every = all_met;
  }
    where
      f : List ℕ
      f = fill z o (suc i) j m

      zero_only : (q : List ℕ) → (a : List ℕ) × Memᴰ a (f ∷ w.rest) × (0 ∷ a ≡ q) → (length q ≡ suc m) × Inside z o i j q
      zero_only q h = subst (λ (q : List ℕ). (length q ≡ suc m) × Inside z o i j q) h.2 (ap suc (w.only h.0 h.1).0, (to_t (z i j) ez, (w.only h.0 h.1).1))

      all_met : (q : List ℕ) → length q ≡ suc m → Inside z o i j q → Memᴰ q (map (λ (q : List ℕ). 0 ∷ q) (f ∷ w.rest) ++ t.tail)
      all_met [] e h = absurd (suc-ne-zero m (sym e))
      all_met (zero ∷ q) e h = Memᴰ.append_left t.tail (Memᴰ.map (λ (q : List ℕ). 0 ∷ q) (w.every q (suc_inj e) h.1))
      all_met (suc zero ∷ q) e h = Memᴰ.append_right (map (λ (q : List ℕ). 0 ∷ q) (f ∷ w.rest)) (t.every q (suc_inj e) h)
      all_met (suc (suc b) ∷ q) e h = absurd h.0

  walked_one : (i j m : ℕ) → z i j ≡ false → Ones i j m → o i j ≡ true → Walked (suc i) (suc j) m (fill z o (suc i) (suc j) m) → Walked i j (suc m) (1 ∷ fill z o (suc i) (suc j) m)
  unfolding ones_some
  walked_one i j m ez t eo w = record {
    rest = map (λ (q : List ℕ). 1 ∷ q) w.rest;
    follows = follows_one i j (fill z o (suc i) (suc j) m) w.rest w.follows;
    rising = rising_map 1 (fill z o (suc i) (suc j) m ∷ w.rest) w.rising;
    only = (ones_some i j m eo w).only;
    every = all_met;
  }
    where
      all_met : (q : List ℕ) → length q ≡ suc m → Inside z o i j q → Memᴰ q (map (λ (q : List ℕ). 1 ∷ q) (fill z o (suc i) (suc j) m ∷ w.rest))
      all_met [] e h = absurd (suc-ne-zero m (sym e))
      all_met (zero ∷ q) e h = absurd (rw ez at h.0)
      all_met (suc zero ∷ q) e h = (ones_some i j m eo w).every q (suc_inj e) h
      all_met (suc (suc b) ∷ q) e h = absurd h.0

  module _ (Live : ℕ → ℕ → Type 0)
      (live_zero : (i j : ℕ) → Live i j → z i j ≡ true → Live (suc i) j)
      (live_one : (i j : ℕ) → Live i j → o i j ≡ true → Live (suc i) (suc j))
      (a_step : (i j : ℕ) → Live i j → z i j ≡ false → o i j ≡ true) where
    pub walked : (m i j : ℕ) → Live i j → Walked i j m (fill z o i j m)
    walked zero i j v = record {
      rest = [];
      follows = refl;
      rising = (tt, tt);
      only = λ q h. subst (λ (q : List ℕ). (length q ≡ 0) × Inside z o i j q) (sym (⊎_elim (λ e. e) (λ n. absurd (Memᴰ.not-nil n)) (Memᴰ.cases_cons h))) (refl, tt);
      every = nil_met;
    }
      where
        nil_met : (q : List ℕ) → length q ≡ 0 → Inside z o i j q → Memᴰ q ([] ∷ [])
        nil_met [] e h = Memᴰ.head refl
        nil_met (b ∷ q) e h = absurd (suc-ne-zero (length q) e)
    walked (suc m) i j v = go (z i j) (o i j) refl refl (λ i j v. walked m i j v)
      where
        go : (a b : Bool) → z i j ≡ a → o i j ≡ b → ((i j : ℕ) → Live i j → Walked i j m (fill z o i j m)) → Walked i j (suc m) (fill z o i j (suc m))
        go true true ez eo ih = rw ez (walked_zero i j m ez (ih (suc i) j (live_zero i j v ez)) (ones_some i j m eo (ih (suc i) (suc j) (live_one i j v eo))))
        go true false ez eo ih = rw ez (walked_zero i j m ez (ih (suc i) j (live_zero i j v ez)) (ones_none i j m eo))
        go false true ez eo ih = rw ez (walked_one i j m ez (ones_some i j m eo (ih (suc i) (suc j) (live_one i j v eo))) eo (ih (suc i) (suc j) (live_one i j v eo)))
        go false false ez eo ih = absurd (false≢true (sym eo ∙ a_step i j v ez))
