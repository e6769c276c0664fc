-- The bytes of a pattern: how many there may be, and which of them are bits.
use Rattle.std.specs.Prelude.{ℕ, List, nat_le}
use Rattle.std.specs.List.{prefix_len}

-- "pattern longer than 4,096"
abbrev pub longest : ℕ
longest = 4_096

-- how many bytes come before the first that is neither 0 nor 1
abbrev pub plain : List ℕ → ℕ
plain p = prefix_len (λ b. nat_le b 1) p
