-- The greatest common divisor by Euclid's method, which also counts the remainders that it takes.
use Rattle.std.specs.Prelude.{ℕ, zero, suc, ◌%◌}

-- what the method ends with
pub record Euclid : Type 0 where
  pub divisor : ℕ
  pub remainders : ℕ

-- one remainder more than the method took from there on
abbrev pub remainder_taken : Euclid → Euclid
remainder_taken e = record { divisor = e.divisor; remainders = suc e.remainders }

-- "The steps run until the second number is 0." At most `left` remainders: the second number falls at each, so suc b are enough
unfoldable pub euclid : ℕ → ℕ → ℕ → Euclid
euclid zero a b = record { divisor = a; remainders = 0 }
euclid (suc left) a zero = record { divisor = a; remainders = 0 }
euclid (suc left) a (suc b) = remainder_taken (euclid left (suc b) (a % suc b))

unfoldable pub gcd_of : ℕ → ℕ → ℕ
gcd_of a b = (euclid (suc b) a b).divisor

unfoldable pub remainders_of : ℕ → ℕ → ℕ
remainders_of a b = (euclid (suc b) a b).remainders
