-- Streams, positions, and what it means that a stream lies in an envelope.
use Rattle.std.specs.Prelude.{◌≡◌, Bool, true, false, not, cond, ℕ, zero, suc, ◌+◌, ◌*◌, ◌≤◌, ℤ, pos, ◌+ℤ◌, ◌≤ℤ◌}
use Rattle.envelope.specs.declared.Envelope.{Envelope}

-- "A stream is an endless run of 0 and 1 with endlessly many 1s": from every place on there is one
pub record Stream : Type 0 where
  pub bit : ℕ → Bool
  pub endless : (t : ℕ) → (u : ℕ) × (t ≤ u) × (bit u ≡ true)

abbrev pub value : Bool → ℕ
value true = 1
value false = 0

-- how many of the first t bits are 1
unfoldable pub ones : (ℕ → Bool) → ℕ → ℕ
ones b zero = 0
ones b (suc t) = ones b t + value (b t)

-- "Positions start at 0; p(j) is the position of the 1 that has j 1s before it": t is p(j)
pub record Position (b : ℕ → Bool) (j t : ℕ) : Type 0 where
  pub is_one : b t ≡ true
  pub before : ones b t ≡ j

-- "for every j from 0, l*j + k <= n*p(j) <= l*j + K"
pub record Within (b : ℕ → Bool) (k K : ℤ) (l n : ℕ) : Type 0 where
  pub low : (j t : ℕ) → Position b j t → (pos (l * j) +ℤ k) ≤ℤ pos (n * t)
  pub high : (j t : ℕ) → Position b j t → pos (n * t) ≤ℤ (pos (l * j) +ℤ K)

-- "A stream lies in it when .."
abbrev pub Keeps : (ℕ → Bool) → Envelope → Type 0
Keeps b e = Within b e.k e.K e.l e.n

abbrev pub Lies : Stream → Envelope → Type 0
Lies s e = Keeps s.bit e

-- the stream s has the bits b
abbrev pub Has : Stream → (ℕ → Bool) → Type 0
Has s b = (t : ℕ) → s.bit t ≡ b t

-- "not exchanges 0 and 1"
abbrev pub not_bits : (ℕ → Bool) → ℕ → Bool
not_bits a t = not (a t)

-- "a on b reads b one element at each 1 of a, and gives 0 at each 0 of a"
abbrev pub on_bits : (ℕ → Bool) → (ℕ → Bool) → ℕ → Bool
on_bits a b t = cond (a t) (b (ones a t)) false
