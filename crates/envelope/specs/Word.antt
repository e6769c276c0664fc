-- Words: "u(v): prefix u, then v for ever", and the envelope of one. A bit is a number, 0 or 1.
use Rattle.std.specs.Prelude.{Bool, cond, List, [], ◌∷◌, ◌++◌, ℕ, zero, suc, ◌+◌, ◌-◌, ◌*◌, ◌/◌, ◌%◌, ◌≤◌, ℤ, pos, ◌-ℤ◌, ltb, eqb, length, get_or}
use Rattle.whole.specs.Order.{larger, smaller}
use Rattle.whole.specs.Euclid.{gcd_of}
use Rattle.envelope.specs.declared.Envelope.{Envelope}
use Rattle.envelope.specs.Stream.{value, ones}
use Rattle.envelope.specs.Envelope.{result_of}

-- the bit at t of a list
abbrev pub bit_at : List ℕ → ℕ → Bool
bit_at xs t = eqb (get_or xs t 0) 1

-- the 1s of a list
unfoldable pub ones_in : List ℕ → ℕ
ones_in [] = 0
ones_in (x ∷ xs) = value (eqb x 1) + ones_in xs

-- the bit of u(v) at t: past u, v is read round and round
unfoldable pub word_bit : List ℕ → List ℕ → ℕ → Bool
word_bit u v t = bit_at (u ++ v) (cond (ltb t (length u)) t (length u + (t - length u) % length v))

-- the smallest and the largest of some numbers, of which there is one
abbrev pub smallest : List ℤ → ℤ
smallest [] = pos 0
smallest (x ∷ []) = x
smallest (x ∷ (y ∷ ys)) = smaller x (smallest (y ∷ ys))

abbrev pub largest : List ℤ → ℤ
largest [] = pos 0
largest (x ∷ []) = x
largest (x ∷ (y ∷ ys)) = larger x (largest (y ∷ ys))

-- n*p(j) - l*j for each 1 among the first t bits, the last first: where bit t is 1, it is p(j) for the j of the 1s before it
unfoldable pub offsets : (ℕ → Bool) → ℕ → ℕ → ℕ → List ℤ
offsets b l n zero = []
offsets b l n (suc t) =
    cond (b t) ((pos (n * t) -ℤ pos (l * ones b t)) ∷ offsets b l n t) (offsets b l n t)

-- the numbers that k and K are the smallest and the largest of: "for j from 0 to (1s in u) + (1s in v) - 1"
abbrev pub word_offsets : List ℕ → List ℕ → ℕ → ℕ → List ℤ
word_offsets u v l n = offsets (word_bit u v) l n (length u + length v)

-- "Reduce (length of v)/(1s in v) to l/n. k and K are the smallest and largest of n*p(j) - l*j .."
unfoldable pub word_of : List ℕ → List ℕ → Envelope
word_of u v =
    let g : ℕ = gcd_of (length v) (ones_in v) in
    let l : ℕ = length v / g in
    let n : ℕ = ones_in v / g in
    result_of (smallest (word_offsets u v l n)) (largest (word_offsets u v l n)) l n

-- the most bits of a prefix, and of a period
abbrev pub bits_most : ℕ
bits_most = 64

-- "prefix length u8 (0 to 64), period length u8 (1 to 64)", and a 1 in the period
pub record LegalWord (u v : List ℕ) : Type 0 where
  pub prefix_most : length u ≤ bits_most
  pub period_most : length v ≤ bits_most
  pub a_one : 1 ≤ ones_in v
