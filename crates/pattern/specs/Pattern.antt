-- Patterns, as lists of 0 and 1: what is inside, the first and the next, and their order. What is inside goes by two tests of a place,
-- with i bits behind and j of them 1: `z` whether a 0 may follow, `o` whether a 1 may.
use Rattle.std.specs.Prelude.{ℕ, zero, suc, ◌+◌, ◌*◌, ◌^◌, Bool, true, false, cond, List, [], ◌∷◌, length, T}
use Rattle.std.proofs.Math.Option.{Option, none, some}

-- the 1s behind, after one more bit
abbrev pub after : ℕ → ℕ → ℕ
after j zero = j
after j (suc b) = suc j

-- q, where the test holds
abbrev pub only_if : Bool → List ℕ → Option (List ℕ)
only_if true q = some q
only_if false q = none

-- b and then q, where there is a q; else the other
abbrev pub behind : ℕ → Option (List ℕ) → Option (List ℕ) → Option (List ℕ)
behind b (some q) other = some (b ∷ q)
behind b none other = other

module _ (z o : ℕ → ℕ → Bool) where
  -- whether the bit b may follow
  abbrev pub may : ℕ → ℕ → ℕ → Bool
  may i j zero = z i j
  may i j (suc zero) = o i j
  may i j (suc (suc b)) = false

  -- "A pattern is inside when each step may be taken."
  abbrev pub Inside : ℕ → ℕ → List ℕ → Type 0
  Inside i j [] = Unit {0}
  Inside i j (b ∷ p) = T (may i j b) × Inside (suc i) (after j b) p

  -- how many steps come before the first forbidden one
  abbrev pub passed : ℕ → ℕ → List ℕ → ℕ
  passed i j [] = zero
  passed i j (b ∷ p) = cond (may i j b) (suc (passed (suc i) (after j b) p)) zero

  -- the smaller bit that may follow, where one may
  abbrev pub least : ℕ → ℕ → ℕ
  least i j = cond (z i j) zero (suc zero)

  -- m steps, each the smaller that may be taken
  abbrev pub fill : ℕ → ℕ → ℕ → List ℕ
  fill i j zero = []
  fill i j (suc m) = least i j ∷ fill (suc i) (after j (least i j)) m

  -- a 0 becomes a 1, where that may be, and the m bits after it are as small as may be
  abbrev pub raised : ℕ → ℕ → ℕ → ℕ → Option (List ℕ)
  raised i j zero m = only_if (o i j) (suc zero ∷ fill (suc i) (suc j) m)
  raised i j (suc b) m = none

  -- the successor: of the tail, where that has one; else the head is raised
  abbrev pub next : ℕ → ℕ → List ℕ → Option (List ℕ)
  next i j [] = none
  next i j (b ∷ p) = behind b (next (suc i) (after j b) p) (raised i j b (length p))

-- "Order is binary, 0 before 1, earlier bit heavier": the number that a pattern reads as
unfoldable pub number : List ℕ → ℕ
number [] = zero
number (b ∷ p) = b * 2 ^ length p + number p
