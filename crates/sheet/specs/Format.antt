-- "The sheet, byte by byte", and "Reply numbers" 1 to 10: which refusal a text gives, and where, without a reader.
use Rattle.std.specs.Prelude.{cond, List, [], ◌∷◌, ◌++◌, map, ℕ, zero, suc, ◌+◌, ◌≤◌, ◌<◌, leb, length}
use Rattle.field.specs.Format.{Judged, Judged.passes, Judged.fails, Format, Format.known, Format.field, Format.then, Format.tested, Piece, Fault, ranged}
use Rattle.envelope.specs.declared.Node.{Node}
use Rattle.envelope.specs.Word.{bits_most, ones_in}
use Rattle.expression.specs.Expression.{Word, depth_most}
use Rattle.expression.specs.Evaluate.{word_nodes}
use Rattle.expression.specs.Format.{expression}
use Rattle.sheet.specs.Sheet.{Link, words_most, clocks_most, links_most, bytes_most}
use Rattle.sheet.specs.SheetRead.{ClockNode, clock_of, node_of_clock, SheetRead}

-- n rows after those of xs, which a row may name
unfoldable pub many : {A : Type 0} → (List A → Format A) → ℕ → List A → Format (List A)
many row zero xs = known xs
many row (suc n) xs = then (row xs) λ x. many row n (xs ++ (x ∷ []))

-- "each after its u16 count": "a count .. beyond its limit" is 2
unfoldable pub counted : {A : Type 0} → (List A → Format A) → ℕ → Format (List A)
counted row most = then (ranged 2 0 (most + 1) 2) λ n. many row n []

-- "one byte 0 or 1 each": "a bit .. not 0 or 1" is 3
unfoldable pub bits : ℕ → Format (List ℕ)
bits zero = known []
bits (suc n) = then (ranged 1 0 2 3) λ b. then (bits n) λ bs. known (b ∷ bs)

-- "a period without a 1" is 4, at its first bit
abbrev pub with_one : List ℕ → Judged (List ℕ)
with_one v = cond (leb 1 (ones_in v)) (passes v) (fails 4)

-- "prefix length u8 (0 to 64), period length u8 (1 to 64), prefix bits, period bits": "a .. length .. beyond its limit" is 2
unfoldable pub word_row : Format Word
word_row =
    then (ranged 1 0 (bits_most + 1) 2) λ p.
    then (ranged 1 1 (bits_most + 1) 2) λ q.
    then (bits p) λ u.
    then (tested (bits q) with_one) λ v.
    known {A = Word} (record { prefix = u; period = v })

-- "state u8 (0 open, 1 closed), then one expression": "a .. state not 0 or 1" is 3
unfoldable pub clock_row : List Node → List ClockNode → Format ClockNode
clock_row ws rows =
    then (ranged 1 0 2 3) λ state.
    then (expression depth_most ws (map node_of_clock rows)) λ x.
    known {A = ClockNode} (record { clock = record { state = state; expr = x.expr }; node = x.node })

-- "producer u16, consumer u16", between n clocks: "a .. link end that isn't there" is 5
unfoldable pub link_row : ℕ → Format Link
link_row n = then (ranged 2 0 n 5) λ p. then (ranged 2 0 n 5) λ q. known {A = Link} (record { producer = p; consumer = q })

-- "Three sections in this order"
unfoldable pub sheet : Format SheetRead
sheet =
    then (counted (λ xs. word_row) words_most) λ ws.
    then (counted (clock_row (word_nodes ws)) clocks_most) λ rows.
    then (counted (λ xs. link_row (length rows)) links_most) λ ls.
    known {A = SheetRead} (record { sheet = record { words = ws; clocks = map clock_of rows; links = ls }; table = map node_of_clock rows })

-- where clock i begins: before it stand the words, the u16 count of the clocks and the clocks before it
unfoldable pub up_to : ℕ → Format (List ClockNode)
up_to i = then (counted (λ xs. word_row) words_most) λ ws. then (field 2) λ n. many (clock_row (word_nodes ws)) i []

abbrev pub ClockAt : List ℕ → ℕ → ℕ → Type 0
ClockAt s i place = (rows : List ClockNode) × Piece s (up_to i) 0 rows place

-- "Reply numbers", 1 to 10: given exactly when, and where. "Length is tested first. Then the sheet is read left to right and the first fault is given."
pub data Refused (s : List ℕ) : ℕ → ℕ → Type 0 where
  -- 2: "sheet too long": 32,768
  too_long : bytes_most < length s → Refused s 2 32_768
  -- 1: a field begins at the place, and "fewer bytes remain than the field has"; 2 to 9: a field, a period or a node begins there, is complete
  -- and fails its test, with the test's number
  faulty : {number place : ℕ} → length s ≤ bytes_most → Fault s sheet 0 number place → Refused s number place
  -- 10: "bytes after the last link": the first
  bytes_after : (o : SheetRead) {place : ℕ} → length s ≤ bytes_most → Piece s sheet 0 o place → place < length s → Refused s 10 place

-- a text that none of those refuses: it is right, to its end
pub record Passed (s : List ℕ) (o : SheetRead) : Type 0 where
  pub short_enough : length s ≤ bytes_most
  pub right : Piece s sheet 0 o (length s)
