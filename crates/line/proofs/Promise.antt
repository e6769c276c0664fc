-- The promises on texts are kept. Assumes nothing.
use mathlib.Core.Path.{◌≡◌, refl, sym, ap, ◌∙◌}
use mathlib.Core.Bool.{true}
use mathlib.Core.List.{List, [], ◌∷◌, ◌++◌, append-nil, append_assoc}
use Prim.Native.Nat.{ℕ, zero, suc, ◌+◌, ◌-◌, ◌*◌, ◌/◌, ◌%◌, ◌≤◌, ◌<◌}
use native.Mathlib.Omega.{arith}
use lib.IntN.{ℤ, pos, negsuc}
use lib.ListN.{length, get_or, take, drop, length-append, get_or-append}
use lib.Seq.{append_snoc, sets, sets-eq, take_at, drop_at, take-append_seam, length-take-le}
use Rattle.line.specs.Text.{Out, out_of, top, put, Put, figure, minus, digits, decimal}
use Rattle.line.specs.Promise.{all_figures, read_on, decimal_value, NumbersPromise, WrittenAt, TextPromise}
use Rattle.line.proofs.Figures.{figures, figure_last}
use Rattle.line.proofs.Puts.{put_then, put_length, put_at, put_fits}
use Rattle.line.proofs.Digits.{by_tens, digits_few, digits_more, length_few, length_some}

-- ---- the digits of a number are a numeral
digits_figures : (n : ℕ) → all_figures (digits n) ≡ true
unfolding all_figures
digits_figures =
    by_tens (λ n. all_figures (digits n) ≡ true)
    (λ n h. rw (digits_few n h) (figure_last [] (figure n) (omega arith) (omega arith) refl))
    (λ n h f. rw (digits_more n h) (figure_last (digits (n / 10)) (figure (n % 10)) (omega arith) (omega arith) f))

first : (n : ℕ) → 0 < n → figure 0 < get_or (digits n) 0 0
first =
    by_tens (λ n. 0 < n → figure 0 < get_or (digits n) 0 0)
    (λ n h p. rw (digits_few n h) (omega arith))
    (λ n h f p. rw (digits_more n h, get_or-append (digits (n / 10)) (figure (n % 10) ∷ []) 0 0 (length_some (n / 10))) (f (omega arith)))

long : (n : ℕ) → 1 < length (digits n) → 0 < n
long zero h = absurd (omega (arith, length_few 0 (omega arith)))
long (suc n) h = omega arith

-- ---- and read back they are the number
read_on_then : (v : ℕ) (t u : List ℕ) → read_on v (t ++ u) ≡ read_on (read_on v t) u
unfolding read_on
read_on_then v [] u = refl
read_on_then v (d ∷ t) u = read_on_then (v * 10 + (d - figure 0)) t u

value : (n : ℕ) → decimal_value (digits n) ≡ n
unfolding read_on
value =
    by_tens (λ n. decimal_value (digits n) ≡ n)
    (λ n h. rw (digits_few n h) (omega arith))
    (λ n h e. rw (digits_more n h, read_on_then 0 (digits (n / 10)) (figure (n % 10) ∷ []), e) (omega arith))

-- ---- no other numeral is
on_from : (v : ℕ) (t : List ℕ) → 0 < v → all_figures t ≡ true → digits (read_on v t) ≡ digits v ++ t
unfolding read_on
on_from v [] h f = sym (append-nil (digits v))
on_from v (d ∷ t) h e =
    let f = figures d t e in
    let w = v * 10 + (d - figure 0) in
    let tenth : w / 10 ≡ v = omega arith in
    let last : figure (w % 10) ≡ d = omega arith in
    let here : digits w ≡ digits v ++ (d ∷ []) = digits_more w (omega arith) ∙ rw (tenth, last) in
    on_from w t (omega arith) f.others ∙ ap (λ (l : List ℕ). l ++ t) here ∙ append_snoc (digits v) d t

spelled : (t : List ℕ) → 0 < length t → all_figures t ≡ true → (1 < length t → figure 0 < get_or t 0 0) → t ≡ digits (decimal_value t)
unfolding read_on
spelled [] h f l = absurd (omega arith)
spelled (d ∷ []) h e l =
    let f = figures d [] e in
    let v : figure (0 * 10 + (d - figure 0)) ≡ d = omega arith in
    sym (digits_few (0 * 10 + (d - figure 0)) (omega arith) ∙ rw v)
spelled (d ∷ c ∷ t) h e l =
    let f = figures d (c ∷ t) e in
    let v : figure (0 * 10 + (d - figure 0)) ≡ d = omega arith in
    let k : figure 0 < d = l (omega arith) in
    sym (on_from (0 * 10 + (d - figure 0)) (c ∷ t) (omega arith) f.others ∙ rw (digits_few (0 * 10 + (d - figure 0)) (omega arith), v))

-- ---- so two numbers with the same text are equal
same_digits : (m n : ℕ) → digits m ≡ digits n → m ≡ n
same_digits m n e = sym (value m) ∙ ap decimal_value e ∙ value n

-- no figure is a minus sign
not_minus : (n m : ℕ) → digits n ≡ minus ∷ digits m → ⊥
not_minus n m e = go (digits n) (digits_figures n) e
  where
    go : (t : List ℕ) → all_figures t ≡ true → t ≡ minus ∷ digits m → ⊥
    go [] f e = let w : ◌≡◌ {A = ℕ} 0 1 = cc in omega arith
    go (d ∷ t) f e = let w : d ≡ minus = cc in omega (arith, (figures d t f).least)

same_decimal : (x y : ℤ) → decimal x ≡ decimal y → x ≡ y
unfolding decimal
same_decimal (pos m) (pos n) e = ap pos (same_digits m n e)
same_decimal (pos m) (negsuc n) e = absurd (not_minus m (suc n) e)
same_decimal (negsuc m) (pos n) e = absurd (not_minus n (suc m) (sym e))
same_decimal (negsuc m) (negsuc n) e = cc (same_digits (suc m) (suc n) (cc))

pub numbers_promise : NumbersPromise
numbers_promise =
    record {
      numeral = λ n. record { some = length_some n; figures = digits_figures n; first = λ h. first n (long n h) };
      value = value;
      spelled = λ t s. spelled t s.some s.figures s.first;
      same_digits = same_digits;
      same_decimal = same_decimal;
    }

-- ---- a text that is put
module _ (xs : List ℕ) (a : ℕ) (t : List ℕ) (h : a + length t ≤ length xs) (k : length xs ≤ top) where
  -- what stands before the text has its length
  start : length (take a xs) ≡ a
  start = length-take-le a xs (omega arith)

  parts : sets xs a t ≡ take a xs ++ (t ++ drop (a + length t) xs)
  parts = sets-eq t xs a h ∙ append_assoc (take a xs) t (drop (a + length t) xs)

  stands : (ys : List ℕ) (r : ℕ) → Put xs a t ys r → WrittenAt xs a t ys r
  stands ys r p =
      let rest = drop (a + length t) xs in
      let bytes : ys ≡ sets xs a t = ap (λ (o : Out). o.bytes) p ∙ put_fits xs a t h k in
      let past : r ≡ a + length t = put_at xs ys t a r (omega arith) p ∙ omega arith in
      record {
        before = ap (take a) (bytes ∙ parts) ∙ take_at (take a xs) (t ++ rest) a start;
        text = ap (λ (l : List ℕ). take (length t) (drop a l)) (bytes ∙ parts) ∙ ap (take (length t)) (drop_at (take a xs) (t ++ rest) a start) ∙ take-append_seam t rest;
        after =
            ap (λ (n : ℕ). drop n ys) past ∙ ap (drop (a + length t)) (bytes ∙ sets-eq t xs a h)
            ∙ drop_at (take a xs ++ t) rest (a + length t) (length-append (take a xs) t ∙ ap (λ (n : ℕ). n + length t) start)
            ∙ ap (λ (n : ℕ). drop n xs) (sym past);
        same_length = put_length xs ys t a r p;
      }

pub text_promise : TextPromise
text_promise =
    record {
      stands = λ xs a t ys r h k p. stands xs a t h k ys r p;
      measured = λ xs t ys r h p. put_at xs ys t 0 r (omega arith) p ∙ omega arith;
      then = λ xs ys zs t u a b c p q. q ∙ ap (λ (o : Out). put o u) p ∙ sym (put_then (out_of xs a) t u);
      one_answer = λ xs ys zs t a b c p q. let e = p ∙ sym q in (ap (λ (o : Out). o.bytes) e, ap (λ (o : Out). o.at) e);
    }
