-- The smallest and the largest offset of a run of bits, bit by bit; and that those of a word's first turn are those of its bits.
-- Assumes nothing.
use mathlib.Core.Path.{◌≡◌, refl, sym, ap, ap₂, ◌∙◌}
use mathlib.Core.Logic.{◌⊎◌, inl, inr}
use mathlib.Core.Bool.{Bool, true, false, cond}
use mathlib.Core.List.{List, [], ◌∷◌, ◌++◌}
use Prim.Native.Nat.{ℕ, zero, suc, ◌+◌, ◌*◌, ◌/◌, ◌≤◌, ◌<◌}
use native.Mathlib.Omega.{arith}
use lib.IntN.{ℤ, pos, ◌-ℤ◌}
use lib.ListN.{length, length-append}
use Rattle.whole.specs.Euclid.{gcd_of}
use Rattle.whole.proofs.Order.{which}
use Rattle.word.specs.declared.Span.{Span}
use Rattle.envelope.specs.Stream.{ones}
use Rattle.envelope.specs.Envelope.{result_of}
use Rattle.envelope.specs.Word.{bit_at, ones_in, word_bit, smallest, largest, offsets, word_of}
use Rattle.word.specs.Inner.Span.{including_of, span_of}
use Rattle.envelope.proofs.Counts.{ones_none, ones_one, ones_zero, same_ones}
use Rattle.envelope.proofs.WordBits.{word_first}

pub span_none : (b : ℕ → Bool) (l n : ℕ) → span_of b l n 0 ≡ record { k = pos 0; K = pos 0 }
unfolding span_of offsets
span_none b l n = refl

module _ (b : ℕ → Bool) (l n : ℕ) where
  -- the offset of a 1 at t, and the offsets where bit t is x
  abbrev here : ℕ → ℤ
  here t = pos (n * t) -ℤ pos (l * ones b t)

  abbrev onward : ℕ → Bool → List ℤ
  onward t x = cond x (here t ∷ offsets b l n t) (offsets b l n t)

  -- as many offsets as 1s
  many : (t : ℕ) → length (offsets b l n t) ≡ ones b t
  unfolding offsets
  many zero = sym (ones_none b)
  many (suc t) = go (which (b t)) (many t)
    where
      go : (b t ≡ true) ⊎ (b t ≡ false) → length (offsets b l n t) ≡ ones b t → length (offsets b l n (suc t)) ≡ ones b (suc t)
      go (inl e) h = ap (λ (x : Bool). length (onward t x)) e ∙ omega (arith, h, ones_one b t e)
      go (inr e) h = ap (λ (x : Bool). length (onward t x)) e ∙ omega (arith, h, ones_zero b t e)

  more : (x : ℤ) (xs : List ℤ) (j : ℕ) → length xs ≡ j → ◌≡◌ {A = Span} (record { k = smallest (x ∷ xs); K = largest (x ∷ xs) }) (including_of (record { k = smallest xs; K = largest xs }) x j)
  more x [] zero h = refl
  more x [] (suc j) h = absurd (omega arith)
  more x (y ∷ ys) zero h = absurd (omega arith)
  more x (y ∷ ys) (suc j) h = refl

  pub span_one : (t : ℕ) → b t ≡ true → span_of b l n (suc t) ≡ including_of (span_of b l n t) (pos (n * t) -ℤ pos (l * ones b t)) (ones b t)
  unfolding span_of offsets
  span_one t e =
      ap (λ (x : Bool). record { k = smallest (onward t x); K = largest (onward t x) }) e
      ∙ more (here t) (offsets b l n t) (ones b t) (many t)

  pub span_zero : (t : ℕ) → b t ≡ false → span_of b l n (suc t) ≡ span_of b l n t
  unfolding span_of offsets
  span_zero t e = ap (λ (x : Bool). record { k = smallest (onward t x); K = largest (onward t x) }) e

-- ---- only the bits before t matter
module _ (a b : ℕ → Bool) (T : ℕ) (same : (t : ℕ) → t < T → a t ≡ b t) where
  pub same_offsets : (l n t : ℕ) → t ≤ T → offsets a l n t ≡ offsets b l n t
  unfolding offsets
  same_offsets l n zero h = refl
  same_offsets l n (suc t) h =
      ap₂ (λ (x : Bool) (j : ℕ). cond x ((pos (n * t) -ℤ pos (l * j)) ∷ offsets a l n t) (offsets a l n t)) (same t (omega arith)) (same_ones a b T same t (omega arith))
      ∙ ap (λ (r : List ℤ). cond (b t) ((pos (n * t) -ℤ pos (l * ones b t)) ∷ r) r) (same_offsets l n t (omega arith))

-- a word's envelope, by the span of its bits
pub word_span :
    (u v xs : List ℕ) (l n : ℕ) →
    u ++ v ≡ xs →
    length v / gcd_of (length v) (ones_in v) ≡ l →
    ones_in v / gcd_of (length v) (ones_in v) ≡ n →
    word_of u v ≡ result_of (span_of (bit_at xs) l n (length xs)).k (span_of (bit_at xs) l n (length xs)).K l n
unfolding word_of span_of
word_span u v xs l n p r s =
    let T : ℕ = length u + length v in
    let len : T ≡ length xs = sym (length-append u v) ∙ ap length p in
    let off : offsets (word_bit u v) l n T ≡ offsets (bit_at xs) l n (length xs) =
    same_offsets (word_bit u v) (bit_at (u ++ v)) T (word_first u v) l n T (omega arith) ∙ ap₂ (λ (ys : List ℕ) (t : ℕ). offsets (bit_at ys) l n t) p len in
    ap₂ (λ (x y : ℕ). result_of (smallest (offsets (word_bit u v) x y T)) (largest (offsets (word_bit u v) x y T)) x y) r s
    ∙ ap (λ (o : List ℤ). result_of (smallest o) (largest o) l n) off
