-- "Rounding up and down mean toward plus and minus infinity, also below zero."
use Rattle.std.specs.Prelude.{ℕ, ◌/◌, ℤ, pos, negsuc, neg_ℤ}

-- x divided by d and rounded down. Below zero, -(a + 1) gives -(a/d + 1)
abbrev pub floor_div : ℤ → ℕ → ℤ
floor_div (pos a) d = pos (a / d)
floor_div (negsuc a) d = negsuc (a / d)

-- x divided by d and rounded up
abbrev pub ceil_div : ℤ → ℕ → ℤ
ceil_div x d = neg_ℤ (floor_div (neg_ℤ x) d)
