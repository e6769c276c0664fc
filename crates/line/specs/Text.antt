-- Text as a list of bytes: numbers in decimal, fields after a blank, and what it is to put a text into a buffer.
use Rattle.std.specs.Prelude.{◌≡◌, List, [], ◌∷◌, ◌++◌, ℕ, zero, suc, ◌+◌, ◌/◌, ◌%◌, min, ℤ, pos, negsuc, set}
use Rattle.line.specs.Letters.{letters}

-- a buffer, and the place where its next byte goes
pub record Out : Type 0 where
  pub bytes : List ℕ
  pub at : ℕ

abbrev pub out_of : List ℕ → ℕ → Out
out_of xs a = record { bytes = xs; at = a }

-- the last place that can be counted: no buffer reaches so far
abbrev pub top : ℕ
top = 18446744073709551615

-- one byte more: past the buffer's end nothing is written, and the places are counted on
unfoldable pub put_one : Out → ℕ → Out
put_one o b = out_of (set o.bytes o.at b) (min (o.at + 1) top)

-- a text, byte by byte
unfoldable pub put : Out → List ℕ → Out
put o [] = o
put o (b ∷ t) = put (put_one o b) t

-- the text t was put into xs at a, which gave ys and the place r past it
abbrev pub Put : List ℕ → ℕ → List ℕ → List ℕ → ℕ → Type 0
Put xs a t ys r = out_of ys r ≡ put (out_of xs a) t

-- "0" is 48, and the other figures follow it
abbrev pub figure : ℕ → ℕ
figure d = 48 + d

abbrev pub blank : ℕ
blank = 32

abbrev pub minus : ℕ
minus = 45

abbrev pub line_feed : ℕ
line_feed = 10

-- what stands before the last figure: nothing where only that one is left
abbrev pub lead : ℕ → (ℕ → List ℕ) → List ℕ
lead zero digitsOf = []
lead (suc q) digitsOf = digitsOf (suc q)

-- the last `most` figures of n, and no zero before its first
unfoldable pub last_digits : ℕ → ℕ → List ℕ
last_digits zero n = []
last_digits (suc most) n = lead (n / 10) (λ q. last_digits most q) ++ (figure (n % 10) ∷ [])

-- n in decimal: it has at most n + 1 figures
unfoldable pub digits : ℕ → List ℕ
digits n = last_digits (suc n) n

-- a number in decimal, a minus sign before a negative one
unfoldable pub decimal : ℤ → List ℕ
decimal (pos n) = digits n
decimal (negsuc n) = minus ∷ digits (suc n)

-- a line: its first field, the others, each after a blank, and a line feed
abbrev pub fields_of : List (List ℕ) → List ℕ
fields_of [] = []
fields_of (t ∷ ts) = (blank ∷ t) ++ fields_of ts

unfoldable pub line_of : List ℕ → List (List ℕ) → List ℕ
line_of t ts = t ++ (fields_of ts ++ (line_feed ∷ []))

-- the same, put field by field
abbrev pub put_field : Out → List ℕ → Out
put_field o t = put (put_one o blank) t

abbrev pub put_fields : Out → List (List ℕ) → Out
put_fields o [] = o
put_fields o (t ∷ ts) = put_fields (put_field o t) ts

abbrev pub put_line : Out → List ℕ → List (List ℕ) → Out
put_line o t ts = put_one (put_fields (put o t) ts) line_feed

-- a word, a number, "at" and a place: "refused NUMBER at PLACE", "closed CLOCK at PLACE"
abbrev pub outcome_fields : ℕ → ℕ → List (List ℕ)
outcome_fields number place = digits number ∷ letters "at" ∷ digits place ∷ []
