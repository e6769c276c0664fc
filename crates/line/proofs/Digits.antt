-- The digits of a number, by tens: a number below 10 is one figure, and any other is its tenth's digits and a figure. Assumes nothing.
use mathlib.Core.Path.{◌≡◌, refl, ap, ◌∙◌}
use mathlib.Core.Logic.{◌⊎◌, inl, inr, ⊎_elim}
use mathlib.Core.List.{List, [], ◌∷◌, ◌++◌}
use Prim.Native.Nat.{ℕ, zero, suc, ◌+◌, ◌/◌, ◌%◌, ◌^◌, ◌≤◌, ◌<◌}
use native.Mathlib.Omega.{arith}
use lib.ListN.{length, length-append}
use Rattle.line.specs.Text.{figure, lead, last_digits, digits}

-- a number has one figure, or a tenth that is not 0
few_or_more : (n : ℕ) → (n < 10) ⊎ (10 ≤ n)
few_or_more n = go (n / 10) refl
  where
    go : (q : ℕ) → q ≡ n / 10 → (n < 10) ⊎ (10 ≤ n)
    go zero e = inl (omega arith)
    go (suc q) e = inr (omega arith)

-- what holds of the numbers below 10, and of a number where it holds of its tenth, holds of all
pub by_tens : (P : ℕ → Type 0) → ((n : ℕ) → n < 10 → P n) → ((n : ℕ) → 10 ≤ n → P (n / 10) → P n) → (n : ℕ) → P n
by_tens P few more n = go (suc n) n (omega arith)
  where
    go : (f n : ℕ) → n < f → P n
    go zero n h = absurd (omega arith)
    go (suc f) n h = ⊎_elim (few n) (λ (l : 10 ≤ n). more n l (go f (n / 10) (omega arith))) (few_or_more n)

-- ---- n has at most n + 1 figures: more than that may be asked for, and the same ones come
lead_same : (q : ℕ) (f g : ℕ → List ℕ) → (0 < q → f q ≡ g q) → lead q f ≡ lead q g
lead_same zero f g e = refl
lead_same (suc q) f g e = e (omega arith)

lead_some : (q : ℕ) (f : ℕ → List ℕ) → 0 < q → lead q f ≡ f q
lead_some zero f h = absurd (omega arith)
lead_some (suc q) f h = refl

enough : (f g n : ℕ) → n < f → n < g → last_digits f n ≡ last_digits g n
unfolding last_digits
enough zero g n h k = absurd (omega arith)
enough (suc f) zero n h k = absurd (omega arith)
enough (suc f) (suc g) n h k =
    rw (lead_same (n / 10) (λ q. last_digits f q) (λ q. last_digits g q) (λ l. enough f g (n / 10) (omega arith) (omega arith)))

last_few : (f n : ℕ) → n < 10 → n < f → last_digits f n ≡ figure n ∷ []
unfolding last_digits
last_few zero n h k = absurd (omega arith)
last_few (suc f) n h k =
    let tenth : n / 10 ≡ 0 = omega arith in
    let last : n % 10 ≡ n = omega arith in
    rw (tenth, last)

last_more : (f g n : ℕ) → 10 ≤ n → n < f → n / 10 < g → last_digits f n ≡ last_digits g (n / 10) ++ (figure (n % 10) ∷ [])
unfolding last_digits
last_more zero g n h k l = absurd (omega arith)
last_more (suc f) g n h k l =
    rw (lead_some (n / 10) (λ q. last_digits f q) (omega arith), enough f g (n / 10) (omega arith) l)

pub digits_few : (n : ℕ) → n < 10 → digits n ≡ figure n ∷ []
unfolding digits
digits_few n h = last_few _ n h (omega arith)

pub digits_more : (n : ℕ) → 10 ≤ n → digits n ≡ digits (n / 10) ++ (figure (n % 10) ∷ [])
unfolding digits
digits_more n h = last_more _ _ n h (omega arith) (omega arith)

pub length_few : (n : ℕ) → n < 10 → length (digits n) ≡ 1
length_few n h = ap length (digits_few n h)

pub length_more : (n : ℕ) → 10 ≤ n → length (digits n) ≡ length (digits (n / 10)) + 1
length_more n h = ap length (digits_more n h) ∙ length-append (digits (n / 10)) (figure (n % 10) ∷ [])

pub length_some : (n : ℕ) → 0 < length (digits n)
length_some = by_tens (λ n. 0 < length (digits n)) (λ n h. omega (arith, length_few n h)) (λ n h p. omega (arith, length_more n h))

-- a number below 10 ^ (k + 1) has at most k + 1 figures
pub length_most : (k n : ℕ) → n < 10 ^ suc k → length (digits n) ≤ suc k
length_most zero n h = omega (arith, length_few n h)
length_most (suc k) n h =
    ⊎_elim (λ (l : n < 10). omega (arith, length_few n l)) (λ (l : 10 ≤ n). omega (arith, length_more n l, length_most k (n / 10) (omega arith))) (few_or_more n)
