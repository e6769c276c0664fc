-- How numbers are spelled in bytes, and which bytes stand where in a text.
use Rattle.std.specs.Prelude.{◌≡◌, List, [], ◌∷◌, ℕ, zero, suc, ◌+◌, ◌-◌, ◌/◌, ◌%◌, ◌^◌, ◌≤◌, ◌<◌, ℤ, pos, negsuc, ◌≤ℤ◌, length, get_or}

-- "Numbers are low byte first": v in w bytes
unfoldable pub bytes_of : ℕ → ℕ → List ℕ
bytes_of zero v = []
bytes_of (suc w) v = v % 256 ∷ bytes_of w (v / 256)

-- how many numbers w bytes can spell
unfoldable pub limit : ℕ → ℕ
limit w = 256 ^ w

-- "k and K are signed in two's complement": the bits of z, of which the first half spell what is not below 0
unfoldable pub twos_by : ℕ → ℤ → ℕ
twos_by half (pos n) = n
twos_by half (negsuc n) = half + half - 1 - n

-- its 32 bits
abbrev pub twos : ℤ → ℕ
twos z = twos_by 2147483648 z

-- the numbers that 32 bits can hold in two's complement, from -2,147,483,648 to 2,147,483,647
pub record Small (z : ℤ) : Type 0 where
  pub least : negsuc 2147483647 ≤ℤ z
  pub most : z ≤ℤ pos 2147483647

-- every element is a byte
abbrev pub AllBytes : List ℕ → Type 0
AllBytes s = (i : ℕ) → get_or s i 0 < 256

-- the bytes of s from a to c are xs
pub data Bytes (s : List ℕ) : ℕ → List ℕ → ℕ → Type 0 where
  done : {a : ℕ} → a ≤ length s → Bytes s a [] a
  byte : {a c x : ℕ} {xs : List ℕ} → a < length s → get_or s a 0 ≡ x → Bytes s (suc a) xs c → Bytes s a (x ∷ xs) c
