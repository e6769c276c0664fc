-- The bits of u(v): its first turn is u and v, later turns are v again, and each has the 1s of v.
-- Assumes nothing.
use mathlib.Core.Path.{◌≡◌, refl, sym, ap, ◌∙◌}
use mathlib.Core.Bool.{Bool, false, cond}
use mathlib.Core.List.{List, [], ◌∷◌, ◌++◌}
use Prim.Native.Nat.{ℕ, zero, suc, ◌+◌, ◌-◌, ◌%◌, ◌≤◌, ◌<◌}
use native.Mathlib.Nat.{add-zero, add-suc, add-mod_right, mod-eq_of_lt}
use native.Mathlib.Decide.{dec_lt}
use native.Mathlib.Omega.{arith}
use lib.Dec.{ltb, eqb}
use lib.ListN.{length, get_or}
use lib.Seq.{get_or-append-add}
use borrow.Author.Tests.{lt-ltb, le-ltb}
use Rattle.envelope.specs.Stream.{value, ones}
use Rattle.envelope.specs.Word.{bit_at, ones_in, word_bit}
use Rattle.envelope.proofs.Counts.{same_ones}

-- the first turn of u(v) is u and v
pub word_first : (u v : List ℕ) (t : ℕ) → t < length u + length v → word_bit u v t ≡ bit_at (u ++ v) t
unfolding word_bit
word_first u v t h = go (dec_lt t (length u))
  where
    at : ℕ → Bool
    at i = eqb (get_or (u ++ v) i 0) 1

    go : Dec (t < length u) → at (cond (ltb t (length u)) t (length u + (t - length u) % length v)) ≡ at t
    go (yes p) = ap (λ (x : Bool). at (cond x t (length u + (t - length u) % length v))) (lt-ltb t (length u) p)
    go (no f) =
        let le : length u ≤ t = omega arith in
        let lt : t - length u < length v = omega arith in
        let e : length u + (t - length u) % length v ≡ t = omega (arith, mod-eq_of_lt lt) in
        ap (λ (x : Bool). at (cond x t (length u + (t - length u) % length v))) (le-ltb t (length u) le) ∙ ap at e

pub turns : (u v : List ℕ) (t : ℕ) → length u ≤ t → word_bit u v (t + length v) ≡ word_bit u v t
unfolding word_bit
turns u v t h =
    let U : ℕ = length u in
    let P : ℕ = length v in
    let d : t + P - U ≡ t - U + P = omega arith in
    let r : (t + P - U) % P ≡ (t - U) % P = ap (λ (x : ℕ). x % P) d ∙ add-mod_right (t - U) P in
    let x : ltb (t + P) U ≡ false = le-ltb (t + P) U (omega arith) in
    let y : ltb t U ≡ false = le-ltb t U h in
    let i : cond (ltb (t + P) U) (t + P) (U + (t + P - U) % P) ≡ cond (ltb t U) t (U + (t - U) % P) =
    ap (λ (z : Bool). cond z (t + P) (U + (t + P - U) % P)) x ∙ ap (λ (z : ℕ). U + z) r ∙ sym (ap (λ (z : Bool). cond z t (U + (t - U) % P)) y) in
    ap (λ (z : ℕ). eqb (get_or (u ++ v) z 0) 1) i

-- counted from the front and counted from the end, the 1s of a list are the same
ones_cons : (x : ℕ) (xs : List ℕ) (t : ℕ) → ones (bit_at (x ∷ xs)) (suc t) ≡ value (eqb x 1) + ones (bit_at xs) t
unfolding ones
ones_cons x xs zero = omega arith
ones_cons x xs (suc t) = omega (arith, ones_cons x xs t)

pub ones_list : (xs : List ℕ) → ones (bit_at xs) (length xs) ≡ ones_in xs
unfolding ones ones_in
ones_list [] = refl
ones_list (x ∷ xs) = ones_cons x xs (length xs) ∙ ap (λ (m : ℕ). value (eqb x 1) + m) (ones_list xs)

-- past u, the list u and v has the bits of v
ones_past : (u v : List ℕ) (m : ℕ) → ones (bit_at (u ++ v)) (length u + m) ≡ ones (bit_at (u ++ v)) (length u) + ones (bit_at v) m
unfolding ones
ones_past u v zero = omega (arith, ap (ones (bit_at (u ++ v))) (add-zero (length u)))
ones_past u v (suc m) =
    let e : bit_at (u ++ v) (length u + m) ≡ bit_at v m = ap (λ (x : ℕ). eqb x 1) (get_or-append-add u v m 0) in
    omega (arith, ap (ones (bit_at (u ++ v))) (add-suc (length u) m), ones_past u v m, ap value e)

-- a turn of v has the 1s of v
pub turn_ones : (u v : List ℕ) → ones (word_bit u v) (length u + length v) ≡ ones (word_bit u v) (length u) + ones_in v
turn_ones u v =
    let T : ℕ = length u + length v in
    let same = same_ones (word_bit u v) (bit_at (u ++ v)) T (word_first u v) in
    omega (arith, same T (omega arith), same (length u) (omega arith), ones_past u v (length v), ones_list v)
