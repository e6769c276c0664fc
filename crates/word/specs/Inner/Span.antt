-- The smallest and the largest of a word's offsets, as the code's loop gathers them.
use Rattle.std.specs.Prelude.{Bool, ℕ, zero, suc, ℤ}
use Rattle.whole.specs.Order.{larger, smaller}
use Rattle.word.specs.declared.Span.{Span}
use Rattle.envelope.specs.Word.{smallest, largest, offsets}

-- with one number more, the first where j is 0
abbrev pub including_of : Span → ℤ → ℕ → Span
including_of s x zero = record { k = x; K = x }
including_of s x (suc j) = record { k = smaller x s.k; K = larger x s.K }

-- of the 1s among the first t bits
unfoldable pub span_of : (ℕ → Bool) → ℕ → ℕ → ℕ → Span
span_of b l n t = record { k = smallest (offsets b l n t); K = largest (offsets b l n t) }
