-- Bits that are read one by one, with the 1s counted so far; and the bits of a word where they lie.
-- Assumes nothing.
use mathlib.Core.Path.{◌≡◌, refl, ap, ◌∙◌}
use mathlib.Core.Bool.{Bool, cond}
use mathlib.Core.List.{List, [], ◌∷◌, ◌++◌}
use Prim.Native.Nat.{ℕ, zero, suc, ◌+◌, ◌-◌, ◌≤◌, ◌<◌, min}
use native.Mathlib.Numerals.{sub-one}
use native.Mathlib.Omega.{arith}
use lib.Dec.{leb, eqb}
use lib.ListN.{length, get_or, take, drop, length-append}
use lib.Seq.{take_at, drop_at}
use borrow.Author.Tests.{le-leb, lt-ltb, le-ltb}
use Rattle.std.proofs.lemmas.List.{get_or-take, get_or-drop, length-take, length-drop}
use Rattle.reply.specs.Numbers.{missing, unknown, no_one}
use Rattle.field.specs.Read.{Read, Read.got, Read.refused, bind, mapped}
use Rattle.field.proofs.Read.{mapped_got, mapped_refused}
use Rattle.field.specs.Spelling.{AllBytes}
use Rattle.field.specs.Field.{low_first, field_at, field_in}
use Rattle.field.proofs.Fields.{low_first_none, low_first_more, field_short, field_whole, field_there}
use Rattle.field.proofs.Spelling.{join, end, part}
use Rattle.envelope.specs.Stream.{value}
use Rattle.envelope.specs.Word.{ones_in, word_of}
use Rattle.envelope.specs.Made.{node_of}
use Rattle.sheet.specs.Reader.{bits_at}
use Rattle.word.specs.Inner.Bits.{word_bits}
use Rattle.sheet.proofs.Spelling.Words.{bits_reads}

-- a bit is its own count
bit_value : (b : ℕ) → b < 2 → value (eqb b 1) ≡ b
bit_value zero h = refl
bit_value (suc zero) h = refl
bit_value (suc (suc b)) h = absurd (omega arith)

-- ---- a bit as it stands: none, one, or another byte
module _ (s : List ℕ) (a : ℕ) where
  pub bit_missing : length s ≤ a → field_in 1 0 2 unknown s a ≡ refused missing a
  unfolding field_in
  bit_missing h = rw (field_short 1 s a (omega arith))

  module _ (b : ℕ) (there : a < length s) (is : get_or s a 0 ≡ b) where
    byte : field_at 1 s a ≡ got b (a + 1)
    byte =
        let v : low_first 1 s a ≡ b = low_first_more s 0 (a + 1) 1 a refl refl ∙ rw (low_first_none s (a + 1), is) (omega arith) in
        field_whole 1 s a (omega arith) ∙ ap (λ (x : ℕ). got x (a + 1)) v

    pub bit_got : b < 2 → field_in 1 0 2 unknown s a ≡ got b (a + 1)
    unfolding field_in
    bit_got h = rw (byte, le-leb 0 b (omega arith), lt-ltb b 2 h)

    pub bit_unknown : 2 ≤ b → field_in 1 0 2 unknown s a ≡ refused unknown a
    unfolding field_in
    bit_unknown h = rw (byte, le-leb 0 b (omega arith), le-ltb b 2 h)

-- how many bits are there, of n
pub lent_many : (s : List ℕ) (a n m : ℕ) → m ≡ min n (length (take (length s - a) (drop a s)))
    → (length (take m (take (length s - a) (drop a s))) ≡ m) × (m ≤ length s - a) × (m ≤ n) × (m < n → m ≡ length s - a)
lent_many s a n m e =
    let rest : length (take (length s - a) (drop a s)) ≡ length s - a = simp (length-take, length-drop) (omega arith) in
    let front : length (take m (take (length s - a) (drop a s))) ≡ min m (length s - a) = length-take m (take (length s - a) (drop a s)) ∙ ap (min m) rest in
    let is : m ≡ min n (length s - a) = e ∙ ap (min n) rest in
    (omega arith, omega arith, omega arith, λ h. omega arith)

-- a bit of those that are there
pub lent_bit : (s : List ℕ) (a m i : ℕ) → i < m → m ≤ length s - a → get_or (take m (take (length s - a) (drop a s))) i 0 ≡ get_or s (a + i) 0
lent_bit s a m i h l =
    get_or-take m (take (length s - a) (drop a s)) i 0 h ∙ get_or-take (length s - a) (drop a s) i 0 (omega arith) ∙ get_or-drop a s i 0

-- ---- n bits from a on, after m 1s
abbrev pub counted : ℕ → List ℕ → ℕ → ℕ → Read ℕ
counted n s m a = mapped (λ bs. m + ones_in bs) (bits_at n s a)

pub count_start : (n : ℕ) (s : List ℕ) (a : ℕ) → mapped ones_in (bits_at n s a) ≡ counted n s 0 a
count_start n s a = go (bits_at n s a)
  where
    go : (r : Read (List ℕ)) → mapped ones_in r ≡ mapped (λ bs. 0 + ones_in bs) r
    go (got bs d) = ap (λ (x : ℕ). got x d) (omega arith)
    go (refused number place) = refl

module _ (n : ℕ) (s : List ℕ) (m a : ℕ) where
  pub count_more : (b c : ℕ) → 0 < n → field_in 1 0 2 unknown s a ≡ got b c → counted n s m a ≡ counted (n - 1) s (m + b) c
  unfolding bits_at ones_in
  count_more b c h e = go n h
    where
      bit : value (eqb b 1) ≡ b
      bit = bit_value b (field_there 1 0 2 unknown s a b c e).most

      one : (r : Read (List ℕ)) → mapped (λ bs. m + ones_in bs) (bind r (λ bs d. got (b ∷ bs) d)) ≡ mapped (λ bs. m + b + ones_in bs) r
      one (got bs d) = ap (λ (x : ℕ). got x d) (omega (arith, bit))
      one (refused number place) = refl

      go : (n : ℕ) → 0 < n → counted n s m a ≡ counted (n - 1) s (m + b) c
      go zero h = absurd (omega arith)
      go (suc n) h = rw (e, sub-one) (one (bits_at n s c))

  pub count_refused : (number place : ℕ) → 0 < n → field_in 1 0 2 unknown s a ≡ refused number place → counted n s m a ≡ refused number place
  unfolding bits_at
  count_refused number place h e = go n h
    where
      go : (n : ℕ) → 0 < n → counted n s m a ≡ refused number place
      go zero h = absurd (omega arith)
      go (suc n) h = rw e

  pub count_all : n ≡ 0 → counted n s m a ≡ got m a
  unfolding bits_at ones_in
  count_all e = rw e (ap (λ (x : ℕ). got x a) (omega arith))

-- ---- a word's bits, by their counts
module _ (p q : ℕ) (s : List ℕ) (a : ℕ) where
  pub prefix_refused : (number place : ℕ) → mapped ones_in (bits_at p s a) ≡ refused number place → word_bits p q s a ≡ refused number place
  unfolding word_bits
  prefix_refused number place e = rw (mapped_refused ones_in (bits_at p s a) number place e)

  module _ (m c : ℕ) (prefix : mapped ones_in (bits_at p s a) ≡ got m c) where
    pub period_refused : (number place : ℕ) → mapped ones_in (bits_at q s c) ≡ refused number place → word_bits p q s a ≡ refused number place
    unfolding word_bits
    period_refused number place e = rw ((mapped_got ones_in (bits_at p s a) m c prefix).1, mapped_refused ones_in (bits_at q s c) number place e)

-- where they lie: from a to c the prefix, from there to d the period, with m 1s
pub record Lain (p q : ℕ) (s : List ℕ) (a c d m : ℕ) : Type 0 where
  pub from : a ≤ d
  pub there : d ≤ length s
  pub many : length (take (d - a) (drop a s)) ≡ p + q
  pub ones : ones_in (drop p (take (d - a) (drop a s))) ≡ m
  pub most : m ≤ q
  pub is : 0 < m → word_bits p q s a ≡ got (node_of (word_of (take p (take (d - a) (drop a s))) (drop p (take (d - a) (drop a s))))) d
  pub without : m ≡ 0 → word_bits p q s a ≡ refused no_one c

ones_most : (bs : List ℕ) → ones_in bs ≤ length bs
unfolding ones_in
ones_most [] = omega arith
ones_most (b ∷ bs) = omega (arith, bit (eqb b 1), ones_most bs)
  where
    bit : (t : Bool) → value t ≤ 1
    bit Bool.true = omega arith
    bit Bool.false = omega arith

module _ (p q : ℕ) (s : List ℕ) (bytes : AllBytes s) (a c d : ℕ) (start : a ≤ length s) where
  both : (u v : List ℕ) → bits_at p s a ≡ got u c → bits_at q s c ≡ got v d → word_bits p q s a ≡ cond (leb 1 (ones_in v)) (got (node_of (word_of u v)) d) (refused no_one c)
  unfolding word_bits
  both u v e f = rw (e, f)

  lain_by : (m : ℕ) (u v : List ℕ) → bits_at p s a ≡ got u c → bits_at q s c ≡ got v d → ones_in v ≡ m → Lain p q s a c d m
  lain_by m u v e f t =
      let b₁ = bits_reads s bytes p a u c start e in
      let b₂ = bits_reads s bytes q c v d (end b₁.2).1 f in
      let e₁ = end b₁.2 in
      let e₂ = end b₂.2 in
      let xs : take (d - a) (drop a s) ≡ u ++ v = part (join b₁.2 b₂.2) in
      let left : take p (take (d - a) (drop a s)) ≡ u = ap (take p) xs ∙ take_at u v p b₁.0 in
      let right : drop p (take (d - a) (drop a s)) ≡ v = ap (drop p) xs ∙ drop_at u v p b₁.0 in
      let w = both u v e f in
      record {
        from = omega (arith, e₁, e₂);
        there = e₂.1;
        many = ap length xs ∙ omega (arith, length-append u v, b₁.0, b₂.0);
        ones = ap ones_in right ∙ t;
        most = omega (arith, ones_most v, t, b₂.0);
        is = λ z. rw (left, right, w) (ap (λ (x : Bool). cond x (got (node_of (word_of u v)) d) (refused no_one c)) (ap (leb 1) t ∙ le-leb 1 m z));
        without = λ z. w ∙ ap (λ (x : ℕ). cond (leb 1 x) (got (node_of (word_of u v)) d) (refused no_one c)) (t ∙ z);
      }

  pub lain : (m₁ m : ℕ) → mapped ones_in (bits_at p s a) ≡ got m₁ c → mapped ones_in (bits_at q s c) ≡ got m d → Lain p q s a c d m
  lain m₁ m e f =
      let r₁ = mapped_got ones_in (bits_at p s a) m₁ c e in
      let r₂ = mapped_got ones_in (bits_at q s c) m d f in
      lain_by m r₁.0 r₂.0 r₁.1 r₂.1 r₂.2
