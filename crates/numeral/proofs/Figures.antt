-- A text of figures is what std's `parse` takes it for.
use Rattle.std.proofs.Common.{◌≡◌, refl, ap, ◌∙◌, ℕ, ◌^◌, ◌<◌, ◌≤◌, Bool, true, false, cond, List, [], ◌∷◌, length, rules, arith, Result, Ok, Err, MatchResult, ℤ, pos, neg_ℤ, zero, suc, eqb, ltb, w64}
use Rattle.std.specs.Char.{is_ascii_digit}
use Rattle.std.specs.List.{list_all}
use Rattle.std.specs.Result.{OkIff}
use Rattle.std.specs.Str.{IsAscii, IsUtf8}
use Rattle.std.specs.Str.Parse.{ParsesUnsigned, ParsesSigned}
use Rattle.std.proofs.lemmas.Fmt.{IsAscii-from_digits}
use Rattle.std.proofs.lemmas.Str.{IsUtf8-from_ascii}
use Rattle.std.proofs.lemmas.Str.Parse.{IsDigitsTest, FoldsDigits, IsNumeralModel, numerals_by_fold, parse_digits, parse_signed_minus, parse_signed_digits}
use Rattle.std.proofs.lemmas.Str.Ascii.{IsAscii-cons}
use Rattle.std.proofs.lemmas.Bool.Decides.{nat_tests}
use Rattle.line.specs.Text.{minus}
use Rattle.line.specs.Promise.{is_figure, all_figures, read_on, decimal_value}
use Rattle.line.proofs.Figures.{figures, figure_first}
use Rattle.numeral.specs.declared.NumberError.{NumberError}
use Rattle.numeral.specs.declared.NumberError.TheVariants.{NotANumber, TooLarge}
use Rattle.numeral.specs.Number.{HasFigures, unsigned, fitted, numeral_of, natural_of, positive, negative, whole_of}

figure_test : (b : ℕ) → is_ascii_digit b ≡ is_figure b
figure_test b = grind (arith, nat_tests)

pub figures_test : (t : List ℕ) → list_all is_ascii_digit t ≡ all_figures t
unfolding all_figures
figures_test [] = refl
figures_test (b ∷ t) = rw (figures_test t, figure_test b) (grind (arith, nat_tests))

is_digits : IsDigitsTest (λ t. all_figures t ≡ true)
unfolding all_figures
is_digits = record {
  empty = refl;
  parts = λ b t e. let f = figures b t e in ((f.least, f.most), f.others);
  more = λ b t h e. figure_first b t h.0 h.1 e;
}

folds : FoldsDigits read_on
unfolding read_on
folds = search rules

pub own : IsNumeralModel (λ t. all_figures t ≡ true) decimal_value
own = numerals_by_fold _ is_digits read_on folds

ascii : (t : List ℕ) → HasFigures t → IsAscii t
ascii t h = IsAscii-from_digits t (own.to t h.1)

-- ---- what is read of a text, by whether it is figures
pub natural_none : (t : List ℕ) → ¬ (IsUtf8 t × HasFigures t) → Err NotANumber ≡ natural_of t
unfolding natural_of
natural_none [] h = refl
natural_none (b ∷ t) h = go (all_figures (b ∷ t)) refl
  where
    go : (f : Bool) → all_figures (b ∷ t) ≡ f → Err NotANumber ≡ cond f (fitted (decimal_value (b ∷ t))) (Err NotANumber)
    go true e = absurd (h (IsUtf8-from_ascii (b ∷ t) (ascii (b ∷ t) (omega arith, e)), (omega arith, e)))
    go false e = refl

pub natural_some : (t : List ℕ) → 0 < length t → natural_of t ≡ numeral_of t
unfolding natural_of
natural_some [] h = absurd (omega arith)
natural_some (b ∷ t) h = refl

of_figures : (t : List ℕ) → HasFigures t → fitted (decimal_value t) ≡ natural_of t
unfolding natural_of
of_figures [] h = absurd (omega arith)
of_figures (b ∷ t) h = rw h.1

pub fits : (v : ℕ) → v < 2 ^ 64 → Ok v ≡ fitted v
fits v h = grind (arith, nat_tests)

pub outgrows : (v : ℕ) → ¬ (v < 2 ^ 64) → Err TooLarge ≡ fitted v
outgrows v h = grind (arith, nat_tests)

pub natural_read : {E : Type 0} (t u : List ℕ) (r : Result ℕ E) (s : Result ℕ NumberError)
    → (u ≡ t) × HasFigures t → ParsesUnsigned 64 10 u r → MatchResult r (λ n. s ≡ Ok n) (λ e. s ≡ Err TooLarge) → s ≡ natural_of t
natural_read {E} t u r s h p m = go r (parse_digits own 64 t r (rw h.0 at p) h.1.1) m ∙ of_figures t h.1
  where
    go : (r : Result ℕ E) → OkIff r ((0 < length t) × (decimal_value t < 2 ^ 64)) (decimal_value t) → MatchResult r (λ n. s ≡ Ok n) (λ e. s ≡ Err TooLarge) → s ≡ fitted (decimal_value t)
    go (Ok n) q m = m ∙ rw q.1 (fits (decimal_value t) q.0.1)
    go (Err e) q m = m ∙ outgrows (decimal_value t) (λ l. q (h.1.0, l))

-- ---- the same with a sign
pub whole_none : (t : List ℕ) → ¬ (IsUtf8 t × HasFigures (unsigned t)) → Err NotANumber ≡ whole_of t
unfolding whole_of
whole_none [] h = refl
whole_none (b ∷ t) h = go (eqb b minus) refl
  where
    go : (m : Bool) → eqb b minus ≡ m → Err NotANumber ≡ cond m (negative (natural_of t)) (positive (natural_of (b ∷ t)))
    go true e = rw (← natural_none t (λ k. let m : b < 128 = grind (arith, nat_tests) in h (IsUtf8-from_ascii (b ∷ t) (IsAscii-cons b t m (ascii t k.1)), rw e k.1)))
    go false e = rw (← natural_none (b ∷ t) (λ k. h (k.0, rw e k.1)))

positive_fits : (v : ℕ) → v < 2 ^ 63 → Ok (pos v) ≡ positive (fitted v)
positive_fits v h = rw (← fits v (omega arith)) (grind (arith, nat_tests))

positive_outgrows : (v : ℕ) → ¬ (v < 2 ^ 63) → Err TooLarge ≡ positive (fitted v)
positive_outgrows v h = go (ltb v (2 ^ 64)) refl
  where
    go : (f : Bool) → ltb v (2 ^ 64) ≡ f → Err TooLarge ≡ positive (cond f (Ok v) (Err TooLarge))
    go true e = grind (arith, nat_tests)
    go false e = refl

negative_fits : (v : ℕ) → v ≤ 2 ^ 63 → Ok (neg_ℤ (pos v)) ≡ negative (fitted v)
negative_fits zero h = refl
negative_fits (suc v) h = rw (← fits (suc v) (omega arith)) (grind (arith, nat_tests))

negative_outgrows : (v : ℕ) → ¬ (v ≤ 2 ^ 63) → Err TooLarge ≡ negative (fitted v)
negative_outgrows zero h = absurd (h (omega arith))
negative_outgrows (suc v) h = go (ltb (suc v) (2 ^ 64)) refl
  where
    go : (f : Bool) → ltb (suc v) (2 ^ 64) ≡ f → Err TooLarge ≡ negative (cond f (Ok (suc v)) (Err TooLarge))
    go true e = grind (arith, nat_tests)
    go false e = refl

pub whole_read : {E : Type 0} (t u : List ℕ) (r : Result ℤ E) (s : Result ℤ NumberError)
    → (u ≡ t) × HasFigures (unsigned t) → ParsesSigned w64 10 u r → MatchResult r (λ n. s ≡ Ok n) (λ e. s ≡ Err TooLarge) → s ≡ whole_of t
unfolding whole_of
whole_read [] u r s h p m = absurd (omega arith)
whole_read {E} (b ∷ t) u r s h p m = go (eqb b minus) refl h.1
  where
    q : ParsesSigned w64 10 (b ∷ t) r
    q = rw h.0 at p

    minused : (r : Result ℤ E) → HasFigures t → OkIff r ((all_figures t ≡ true) × (0 < length t) × (decimal_value t ≤ 2 ^ 63)) (neg_ℤ (pos (decimal_value t)))
        → MatchResult r (λ n. s ≡ Ok n) (λ e. s ≡ Err TooLarge) → s ≡ negative (fitted (decimal_value t))
    minused (Ok n) k q m = m ∙ rw q.1 (negative_fits (decimal_value t) q.0.2)
    minused (Err e) k q m = m ∙ negative_outgrows (decimal_value t) (λ l. q (k.1, k.0, l))

    plain : (r : Result ℤ E) → HasFigures (b ∷ t) → OkIff r ((0 < length (b ∷ t)) × (decimal_value (b ∷ t) < 2 ^ 63)) (pos (decimal_value (b ∷ t)))
        → MatchResult r (λ n. s ≡ Ok n) (λ e. s ≡ Err TooLarge) → s ≡ positive (fitted (decimal_value (b ∷ t)))
    plain (Ok n) k q m = m ∙ rw q.1 (positive_fits (decimal_value (b ∷ t)) q.0.1)
    plain (Err e) k q m = m ∙ positive_outgrows (decimal_value (b ∷ t)) (λ l. q (k.0, l))

    go : (f : Bool) → eqb b minus ≡ f → HasFigures (cond f t (b ∷ t)) → s ≡ cond f (negative (natural_of t)) (positive (natural_of (b ∷ t)))
    go true e k = minused r k (parse_signed_minus own w64 (b ∷ t) r q (grind (arith, nat_tests))) m ∙ ap negative (of_figures t k)
    go false e k = plain r k (parse_signed_digits own w64 (b ∷ t) r q k.1) m ∙ ap positive (of_figures (b ∷ t) k)
