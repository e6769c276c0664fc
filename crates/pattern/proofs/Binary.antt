-- Binary order: of two patterns of one length, the one that is less bit by bit reads as the smaller number, and the other way round.
-- Assumes nothing.
use Prim.Native.Nat.{ℕ, zero, suc, ◌+◌, ◌*◌, ◌^◌, ◌≤◌, ◌<◌}
use native.Mathlib.Nat.{suc_inj, suc-ne-zero, not-suc-le-zero, le_of_suc-le-suc, zero-mul, one-mul, pow-suc}
use native.Mathlib.Omega.{arith}
use mathlib.Core.Path.{◌≡◌, refl, sym, ap, subst}
use mathlib.Core.Logic.{◌⊎◌, inl, inr, ⊎_elim}
use mathlib.Core.List.Memᴰ
use mathlib.Core.List.{List, [], ◌∷◌, Memᴰ}
use lib.ListN.{length, get_or}
use Rattle.pattern.specs.Pattern.{number}
use Rattle.pattern.proofs.Lists.{Less, Below, Rising}

-- every element is 0 or 1
abbrev pub Bits : List ℕ → Type 0
Bits [] = Unit {0}
Bits (b ∷ p) = (b ≤ 1) × Bits p

number_small : (p : List ℕ) → Bits p → number p < 2 ^ length p
unfolding number
number_small [] h = omega arith
number_small (zero ∷ p) h = let s = number_small p h.1 in omega (arith, zero-mul (2 ^ length p), pow-suc 2 (length p))
number_small (suc zero ∷ p) h = let s = number_small p h.1 in omega (arith, one-mul (2 ^ length p), pow-suc 2 (length p))
number_small (suc (suc b) ∷ p) h = absurd (let s = h.0 in omega arith)

pub less_number : (p q : List ℕ) → length p ≡ length q → Bits p → Bits q → Less p q → number p < number q
unfolding number
less_number [] q e hp hq l = absurd l
less_number (a ∷ p) [] e hp hq l = absurd l
less_number (a ∷ p) (b ∷ q) e hp hq l =
    ⊎_elim
    (λ f. raise a b f hq.0)
    (λ f.
    let s = less_number p q (suc_inj e) hp.1 hq.1 f.1 in
    let w : a * 2 ^ length p ≡ b * 2 ^ length q = cc (suc_inj e) in
    omega arith)
    l
  where
    small : number p < 2 ^ length q
    small = subst (λ (k : ℕ). number p < 2 ^ k) (suc_inj e) (number_small p hp.1)

    raise : (a b : ℕ) → a < b → b ≤ 1 → a * 2 ^ length p + number p < b * 2 ^ length q + number q
    raise zero (suc zero) h k = omega (arith, small, zero-mul (2 ^ length p), one-mul (2 ^ length q))
    raise zero (suc (suc b)) h k = absurd (omega arith)
    raise zero zero h k = absurd (omega arith)
    raise (suc a) b h k = absurd (omega arith)

consed : (b : ℕ) (p q : List ℕ) → (p ≡ q) ⊎ (Less p q ⊎ Less q p) → (b ∷ p ≡ b ∷ q) ⊎ (Less (b ∷ p) (b ∷ q) ⊎ Less (b ∷ q) (b ∷ p))
consed b p q h =
    ⊎_elim (λ e. inl (ap (λ (t : List ℕ). b ∷ t) e)) (λ l. inr (⊎_elim (λ f. inl (inr (refl, f))) (λ f. inr (inr (refl, f))) l)) h

-- two patterns of one length: the same, or one is less
pub compared : (p q : List ℕ) → length p ≡ length q → Bits p → Bits q → (p ≡ q) ⊎ (Less p q ⊎ Less q p)
compared [] [] e hp hq = inl refl
compared [] (b ∷ q) e hp hq = absurd (suc-ne-zero (length q) (sym e))
compared (a ∷ p) [] e hp hq = absurd (suc-ne-zero (length p) e)
compared (zero ∷ p) (zero ∷ q) e hp hq = consed 0 p q (compared p q (suc_inj e) hp.1 hq.1)
compared (suc zero ∷ p) (suc zero ∷ q) e hp hq = consed 1 p q (compared p q (suc_inj e) hp.1 hq.1)
compared (zero ∷ p) (suc b ∷ q) e hp hq = inr (inl (inl (omega arith)))
compared (suc a ∷ p) (zero ∷ q) e hp hq = inr (inr (inl (omega arith)))
compared (suc (suc a) ∷ p) (suc b ∷ q) e hp hq = absurd (let s = hp.0 in omega arith)
compared (suc zero ∷ p) (suc (suc b) ∷ q) e hp hq = absurd (let s = hq.0 in omega arith)

pub number_less : (p q : List ℕ) → length p ≡ length q → Bits p → Bits q → number p < number q → Less p q
number_less p q e hp hq h =
    ⊎_elim
    (λ s. absurd (let w = ap number s in omega arith))
    (λ s. ⊎_elim (λ l. l) (λ l. absurd (let w = less_number q p (sym e) hq hp l in omega arith)) s)
    (compared p q e hp hq)

-- ---- by their places in a list that rises
below_at : (p : List ℕ) (ps : List (List ℕ)) (j : ℕ) → Below p ps → j < length ps → Less p (get_or ps j [])
below_at p [] j h k = absurd (not-suc-le-zero k)
below_at p (q ∷ ps) zero h k = h.0
below_at p (q ∷ ps) (suc j) h k = below_at p ps j h.1 (le_of_suc-le-suc k)

pub rises_at : (ps : List (List ℕ)) → Rising ps → (i j : ℕ) → i < j → j < length ps → Less (get_or ps i []) (get_or ps j [])
rises_at [] r i j h k = absurd (not-suc-le-zero k)
rises_at (p ∷ ps) r i zero h k = absurd (not-suc-le-zero h)
rises_at (p ∷ ps) r zero (suc j) h k = below_at p ps j r.0 (le_of_suc-le-suc k)
rises_at (p ∷ ps) r (suc i) (suc j) h k = rises_at ps r.1 i j (le_of_suc-le-suc h) (le_of_suc-le-suc k)

pub at_place : (p : List ℕ) (ps : List (List ℕ)) → Memᴰ p ps → (i : ℕ) × (i < length ps) × (get_or ps i [] ≡ p)
at_place p [] h = absurd (Memᴰ.not-nil h)
at_place p (q ∷ ps) h =
    ⊎_elim
    (λ e. (0, omega arith, sym e))
    (λ t. let r = at_place p ps t in (suc r.0, (let k = r.1 in omega arith), r.2))
    (Memᴰ.cases_cons h)

pub place_in : (ps : List (List ℕ)) (i : ℕ) → i < length ps → Memᴰ (get_or ps i []) ps
place_in [] i h = absurd (not-suc-le-zero h)
place_in (p ∷ ps) zero h = Memᴰ.head refl
place_in (p ∷ ps) (suc i) h = Memᴰ.tail (place_in ps i (le_of_suc-le-suc h))
