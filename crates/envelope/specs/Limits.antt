-- "The numeric limits of an envelope belong to the envelope itself and are written once": the code's constants are proved to be these.
use Rattle.std.specs.Prelude.{ℕ, ℤ, pos, neg_ℤ}

-- "1 <= n <= l <= 1,000,000"
abbrev pub l_most : ℕ
l_most = 1_000_000

-- "k from -1,000,000,000 to 1,000,000,000"
abbrev pub lower_least : ℤ
lower_least = neg_ℤ (pos 1_000_000_000)

abbrev pub lower_most : ℤ
lower_most = pos 1_000_000_000

-- "K from 0 to 1,000,000,000"
abbrev pub upper_least : ℤ
upper_least = pos 0

abbrev pub upper_most : ℤ
upper_most = pos 1_000_000_000
