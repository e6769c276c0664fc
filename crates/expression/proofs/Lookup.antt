-- Laws of entries of lists. Assumes nothing.
use mathlib.Core.Path.{◌≡◌, refl, sym, ap}
use mathlib.Core.List.{List, [], ◌∷◌, map}
use mathlib.Core.Option.{Option, none, some}
use Prim.Native.Nat.{ℕ, zero, suc, ◌≤◌, ◌<◌}
use native.Mathlib.Omega.{arith}
use lib.ListN.{length, take, get_or, get_elem?}

pub none_some : {A B : Type 0} {x : A} → ◌≡◌ {A = Option A} none (some x) → B
none_some h = let z : ◌≡◌ {A = ℕ} 0 1 = cc in absurd (omega arith)

module _ {A : Type 0} where
  pub lookup_below : (xs : List A) (i : ℕ) (x : A) → get_elem? xs i ≡ some x → i < length xs
  lookup_below [] i x h = none_some h
  lookup_below (y ∷ xs) zero x h = omega arith
  lookup_below (y ∷ xs) (suc i) x h = omega (arith, lookup_below xs i x h)

  pub lookup_none : (xs : List A) (i : ℕ) → get_elem? xs i ≡ none → length xs ≤ i
  lookup_none [] i h = omega arith
  lookup_none (x ∷ xs) zero h = none_some (sym h)
  lookup_none (x ∷ xs) (suc i) h = omega (arith, lookup_none xs i h)

  pub lookup_there : (xs : List A) (i : ℕ) → i < length xs → (x : A) × (get_elem? xs i ≡ some x)
  lookup_there [] i h = absurd (omega arith)
  lookup_there (y ∷ xs) zero h = (y, refl)
  lookup_there (y ∷ xs) (suc i) h = lookup_there xs i (omega arith)

  -- what is read where there is one
  pub lookup_at : (xs : List A) (i : ℕ) (x : A) → i < length xs → x ≡ get_or xs i x → get_elem? xs i ≡ some x
  lookup_at [] i x h e = absurd (omega arith)
  lookup_at (y ∷ xs) zero x h e = ap some (sym e)
  lookup_at (y ∷ xs) (suc i) x h e = lookup_at xs i x (omega arith) e

  pub lookup_past : (xs : List A) (i : ℕ) → length xs ≤ i → get_elem? xs i ≡ none
  lookup_past [] i h = refl
  lookup_past (x ∷ xs) zero h = absurd (omega arith)
  lookup_past (x ∷ xs) (suc i) h = lookup_past xs i (omega arith)

  -- an entry of the first j
  pub lookup_take : (xs : List A) (j i : ℕ) (x : A) → get_elem? (take j xs) i ≡ some x → (i < j) × (get_elem? xs i ≡ some x)
  lookup_take xs zero i x h = none_some h
  lookup_take [] (suc j) i x h = none_some h
  lookup_take (y ∷ xs) (suc j) zero x h = (omega arith, h)
  lookup_take (y ∷ xs) (suc j) (suc i) x h =
      let r = lookup_take xs j i x h in
      (omega (arith, r.0), r.1)

-- an entry of the values of f
pub lookup_map : {A B : Type 0} (f : A → B) (xs : List A) (i : ℕ) (y : B) → get_elem? (map f xs) i ≡ some y → (x : A) × (get_elem? xs i ≡ some x) × (y ≡ f x)
lookup_map f [] i y h = none_some h
lookup_map f (x ∷ xs) zero y h = (x, refl, cc)
lookup_map f (x ∷ xs) (suc i) y h = lookup_map f xs i y h
