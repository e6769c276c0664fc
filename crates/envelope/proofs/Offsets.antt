-- The smallest and the largest of a word's offsets are among them, and each offset is between the two.
-- Assumes nothing.
use mathlib.Core.Path.{◌≡◌, refl, sym, ap, ◌∙◌, subst}
use mathlib.Core.Logic.{◌⊎◌, inl, inr}
use mathlib.Core.Bool.{Bool, true, false, cond}
use mathlib.Core.List.{List, [], ◌∷◌}
use Prim.Native.Nat.{ℕ, zero, suc, ◌*◌, ◌<◌}
use native.Mathlib.Decide.{dec_lt}
use native.Mathlib.Omega.{arith}
use lib.IntN.{ℤ, pos, ◌-ℤ◌}
use lib.Signed.{◌≤ℤ◌, lt_z}
use lib.ListN.{length}
use Rattle.whole.specs.Order.{larger, smaller}
use Rattle.whole.proofs.Bridge.{orders}
use Rattle.whole.proofs.Order.{which, larger_left, larger_right, smaller_left, smaller_right}
use Rattle.envelope.specs.Stream.{value, ones}
use Rattle.envelope.specs.Word.{smallest, largest, offsets}

-- z is between the smallest and the largest, where there is one
unfoldable pub Between : List ℤ → ℤ → Type 0
Between xs z = (smallest xs ≤ℤ z) × (z ≤ℤ largest xs)

here : (x : ℤ) (xs : List ℤ) → Between (x ∷ xs) x
unfolding Between
here x [] = (omega (arith, orders), omega (arith, orders))
here x (y ∷ ys) = (smaller_left x (smallest (y ∷ ys)), larger_left x (largest (y ∷ ys)))

-- xs has something in it where z is between for a reason
there : (x y : ℤ) (ys : List ℤ) (z : ℤ) → Between (y ∷ ys) z → Between (x ∷ (y ∷ ys)) z
unfolding Between
there x y ys z h =
    let p : smallest (y ∷ ys) ≤ℤ z = h.0 in
    let q : z ≤ℤ largest (y ∷ ys) = h.1 in
    (omega (arith, orders, smaller_right x (smallest (y ∷ ys))), omega (arith, orders, larger_right x (largest (y ∷ ys))))

pub data In : ℤ → List ℤ → Type 0 where
  first : {x : ℤ} {xs : List ℤ} → In x (x ∷ xs)
  next : {x y : ℤ} {xs : List ℤ} → In x xs → In x (y ∷ xs)

pub in_between : {z : ℤ} {xs : List ℤ} → In z xs → Between xs z
in_between (first {x = x} {xs = xs}) = here x xs
in_between (next {y = y} (first {x = x} {xs = xs})) = there y x xs x (here x xs)
in_between (next {x = z} {y = y} (next {y = x} {xs = xs} h)) = there y x xs z (in_between (next {y = x} h))

module _ (b : ℕ → Bool) (l n : ℕ) where
  unfoldable pub offset : ℕ → ℤ
  offset t = pos (n * t) -ℤ pos (l * ones b t)

  pub in_offsets : (T t : ℕ) → t < T → b t ≡ true → In (offset t) (offsets b l n T)
  unfolding offsets offset
  in_offsets zero t h e = absurd (omega arith)
  in_offsets (suc T) t h e = go (which (b T)) (dec_lt t T) (λ p. in_offsets T t p e)
    where
      Goal : Bool → Type 0
      Goal x = In (offset t) (cond x (offset T ∷ offsets b l n T) (offsets b l n T))

      last : ¬ (t < T) → b T ≡ true
      last f =
          let q : t ≡ T = omega arith in
          sym (ap b q) ∙ e

      at : ¬ (t < T) → In (offset t) (offset T ∷ offsets b l n T)
      at f =
          let q : t ≡ T = omega arith in
          subst (λ (u : ℕ). In (offset t) (offset u ∷ offsets b l n T)) q first

      go : (b T ≡ true) ⊎ (b T ≡ false) → Dec (t < T) → (t < T → In (offset t) (offsets b l n T)) → In (offset t) (offsets b l n (suc T))
      go (inl x) (yes p) ih = subst (λ (y : Bool). Goal y) (sym x) (next (ih p))
      go (inl x) (no f) ih = subst (λ (y : Bool). Goal y) (sym x) (at f)
      go (inr x) (yes p) ih = subst (λ (y : Bool). Goal y) (sym x) (ih p)
      go (inr x) (no f) ih = absurd (omega (arith, ap value (sym (last f) ∙ x)))

-- the smallest and the largest are among the numbers
smallest_in : (x : ℤ) (xs : List ℤ) → In (smallest (x ∷ xs)) (x ∷ xs)
smallest_in x [] = first
smallest_in x (y ∷ ys) = go (which (lt_z x (smallest (y ∷ ys)))) (smallest_in y ys)
  where
    go : (lt_z x (smallest (y ∷ ys)) ≡ true) ⊎ (lt_z x (smallest (y ∷ ys)) ≡ false) → In (smallest (y ∷ ys)) (y ∷ ys) → In (smaller x (smallest (y ∷ ys))) (x ∷ (y ∷ ys))
    go (inl e) h = subst (λ (t : Bool). In (cond t x (smallest (y ∷ ys))) (x ∷ (y ∷ ys))) (sym e) first
    go (inr e) h = subst (λ (t : Bool). In (cond t x (smallest (y ∷ ys))) (x ∷ (y ∷ ys))) (sym e) (next h)

largest_in : (x : ℤ) (xs : List ℤ) → In (largest (x ∷ xs)) (x ∷ xs)
largest_in x [] = first
largest_in x (y ∷ ys) = go (which (lt_z x (largest (y ∷ ys)))) (largest_in y ys)
  where
    go : (lt_z x (largest (y ∷ ys)) ≡ true) ⊎ (lt_z x (largest (y ∷ ys)) ≡ false) → In (largest (y ∷ ys)) (y ∷ ys) → In (larger x (largest (y ∷ ys))) (x ∷ (y ∷ ys))
    go (inl e) h = subst (λ (t : Bool). In (cond t (largest (y ∷ ys)) x) (x ∷ (y ∷ ys))) (sym e) (next h)
    go (inr e) h = subst (λ (t : Bool). In (cond t (largest (y ∷ ys)) x) (x ∷ (y ∷ ys))) (sym e) first

pub small_in : {z : ℤ} {xs : List ℤ} → In z xs → In (smallest xs) xs
small_in (first {x = x} {xs = xs}) = smallest_in x xs
small_in (next {y = y} {xs = xs} h) = smallest_in y xs

pub large_in : {z : ℤ} {xs : List ℤ} → In z xs → In (largest xs) xs
large_in (first {x = x} {xs = xs}) = largest_in x xs
large_in (next {y = y} {xs = xs} h) = largest_in y xs

cons_in : {z x : ℤ} {xs : List ℤ} → In z (x ∷ xs) → (z ≡ x) ⊎ In z xs
cons_in first = inl refl
cons_in (next h) = inr h

some_in : {z : ℤ} {xs : List ℤ} → In z xs → length xs ≡ 0 → ⊥
some_in first e = omega arith
some_in (next h) e = omega arith

module _ (b : ℕ → Bool) (l n : ℕ) where
  -- each of the offsets is one of a place
  pub from_offsets : (T : ℕ) (z : ℤ) → In z (offsets b l n T) → (t : ℕ) × (t < T) × (z ≡ offset b l n t)
  unfolding offsets offset
  from_offsets zero z h = absurd (some_in h refl)
  from_offsets (suc T) z h = go (b T) h (λ k. wider (from_offsets T z k))
    where
      Goal : Type 0
      Goal = (t : ℕ) × (t < suc T) × (z ≡ pos (n * t) -ℤ pos (l * ones b t))

      wider : (t : ℕ) × (t < T) × (z ≡ pos (n * t) -ℤ pos (l * ones b t)) → Goal
      wider r = (r.0, omega (arith, r.1), r.2)

      one : (z ≡ pos (n * T) -ℤ pos (l * ones b T)) ⊎ In z (offsets b l n T) → (In z (offsets b l n T) → Goal) → Goal
      one (inl e) ih = (T, omega arith, e)
      one (inr k) ih = ih k

      go : (x : Bool) → In z (cond x ((pos (n * T) -ℤ pos (l * ones b T)) ∷ offsets b l n T) (offsets b l n T)) → (In z (offsets b l n T) → Goal) → Goal
      go true k ih = one (cons_in k) ih
      go false k ih = ih k
