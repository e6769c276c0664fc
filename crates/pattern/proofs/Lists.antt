-- Lists of patterns: the order of two patterns bit by bit, lists that rise, and lists in which each is followed by the next.
-- Assumes nothing.
use Prim.Native.Nat.{ℕ, ◌<◌}
use native.Mathlib.Omega.{arith}
use mathlib.Core.Path.{◌≡◌, refl}
use mathlib.Core.Logic.{◌⊎◌, inl, inr}
use mathlib.Core.List.{List, [], ◌∷◌, ◌++◌, map}
use mathlib.Core.Option.{Option, none, some}

-- the earliest bit that differs is less
abbrev pub Less : List ℕ → List ℕ → Type 0
Less [] q = ⊥
Less (a ∷ p) [] = ⊥
Less (a ∷ p) (b ∷ q) = (a < b) ⊎ ((a ≡ b) × Less p q)

abbrev pub Below : List ℕ → List (List ℕ) → Type 0
Below p [] = Unit {0}
Below p (q ∷ qs) = Less p q × Below p qs

-- each is less than all that come after it
abbrev pub Rising : List (List ℕ) → Type 0
Rising [] = Unit {0}
Rising (p ∷ ps) = Below p ps × Rising ps

-- each is followed by f of it, and f has nothing for the last
abbrev pub Follows : (List ℕ → Option (List ℕ)) → List ℕ → List (List ℕ) → Type 0
Follows f p [] = f p ≡ none
Follows f p (q ∷ qs) = (f p ≡ some q) × Follows f q qs

pub rising_map : (b : ℕ) (ps : List (List ℕ)) → Rising ps → Rising (map (λ (q : List ℕ). b ∷ q) ps)
rising_map b [] r = tt
rising_map b (p ∷ ps) r = (go ps r.0, rising_map b ps r.1)
  where
    go : (qs : List (List ℕ)) → Below p qs → Below (b ∷ p) (map (λ (q : List ℕ). b ∷ q) qs)
    go [] h = tt
    go (q ∷ qs) h = (inr (refl, h.0), go qs h.1)

below_append : (p : List ℕ) (xs ys : List (List ℕ)) → Below p xs → Below p ys → Below p (xs ++ ys)
below_append p [] ys h k = k
below_append p (x ∷ xs) ys h k = (h.0, below_append p xs ys h.1 k)

pub rising_zeros : (ps tl : List (List ℕ)) → Rising ps → Rising tl → ((p : List ℕ) → Below (0 ∷ p) tl) → Rising (map (λ (q : List ℕ). 0 ∷ q) ps ++ tl)
rising_zeros [] tl r s h = s
rising_zeros (p ∷ ps) tl r s h =
    (below_append (0 ∷ p) (map (λ (q : List ℕ). 0 ∷ q) ps) tl (rising_map 0 (p ∷ ps) r).0 (h p), rising_zeros ps tl r.1 s h)

pub zero_below : (p : List ℕ) (qs : List (List ℕ)) → Below (0 ∷ p) (map (λ (q : List ℕ). 1 ∷ q) qs)
zero_below p [] = tt
zero_below p (q ∷ qs) = (inl (omega arith), zero_below p qs)
