-- "Reply numbers": refusals of document 01 by name, with what each is given for and its place. 7, 8 and 9 are those of what a rule makes
-- (envelope/specs/Made, `number_of`).
use Rattle.std.specs.Prelude.{ℕ}

-- fewer bytes remain than the field has; at its first byte
abbrev pub missing : ℕ
missing = 1

-- the sheet is too long, at 32,768; a count, length, k, K, l or n is beyond its limit (n also above l), at the field
abbrev pub beyond : ℕ
beyond = 2

-- a bit or state not 0 or 1, an unknown tag; at the field
abbrev pub unknown : ℕ
unknown = 3

-- a period without a 1; at its first bit
abbrev pub no_one : ℕ
no_one = 4

-- a word, earlier clock or link end that isn't there; at the field
abbrev pub absent : ℕ
absent = 5

-- a node at depth 13; at its tag
abbrev pub too_deep : ℕ
too_deep = 6

-- bytes after the last link; at the first
abbrev pub trailing : ℕ
trailing = 10

-- a lent result slice is too short; at 0
abbrev pub short_result : ℕ
short_result = 11

-- four numbers that are no taken, normal envelope; at 0
abbrev pub no_envelope : ℕ
no_envelope = 12

-- a pattern longer than 4,096; at 0
abbrev pub long_pattern : ℕ
long_pattern = 13

-- a pattern byte not 0 or 1; at the first such
abbrev pub not_a_bit : ℕ
not_a_bit = 14

-- a pattern outside the envelope; at the first forbidden step
abbrev pub outside : ℕ
outside = 15

-- no such clock; at 0
abbrev pub no_clock : ℕ
no_clock = 16

-- the clock is already closed; at 0
abbrev pub already_closed : ℕ
already_closed = 17
