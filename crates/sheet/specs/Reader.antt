-- The reader of a sheet: its value with each clock's node, or the first refusal with its place.
use Rattle.std.specs.Prelude.{cond, List, [], ◌∷◌, ◌++◌, map, ℕ, zero, suc, ◌+◌, leb, eqb, length}
use Rattle.reply.specs.Numbers.{beyond, unknown, no_one, absent, trailing}
use Rattle.field.specs.Read.{Read, Read.got, Read.refused, bind}
use Rattle.field.specs.Field.{field_in}
use Rattle.envelope.specs.declared.Node.{Node}
use Rattle.envelope.specs.Word.{bits_most, ones_in}
use Rattle.expression.specs.Expression.{Word, depth_most}
use Rattle.expression.specs.Evaluate.{word_nodes}
use Rattle.expression.specs.Reader.{expr_at}
use Rattle.sheet.specs.Sheet.{Link, words_most, clocks_most, links_most, bytes_most}
use Rattle.sheet.specs.SheetRead.{ClockNode, clock_of, node_of_clock, SheetRead}

-- n rows from a on, after those of xs; `row xs a` reads one
unfoldable pub rows_at : {A : Type 0} → (List A → ℕ → Read A) → ℕ → List A → ℕ → Read (List A)
rows_at row zero xs a = got xs a
rows_at row (suc n) xs a = bind (row xs a) λ x c. rows_at row n (xs ++ (x ∷ [])) c

-- a section: its count, at most `most`, and its rows
unfoldable pub section_at : {A : Type 0} → (List A → ℕ → Read A) → ℕ → List ℕ → ℕ → Read (List A)
section_at row most s a = bind (field_in 2 0 (most + 1) beyond s a) λ n c. rows_at row n [] c

-- "A bit is tested as it is read"
unfoldable pub bits_at : ℕ → List ℕ → ℕ → Read (List ℕ)
bits_at zero s a = got [] a
bits_at (suc n) s a = bind (field_in 1 0 2 unknown s a) λ b c. bind (bits_at n s c) λ bs d. got (b ∷ bs) d

-- "prefix length u8 (0 to 64), period length u8 (1 to 64), prefix bits, period bits"; "4 comes after the last period bit", at its first
unfoldable pub word_at : List ℕ → ℕ → Read Word
word_at s a =
    bind (field_in 1 0 (bits_most + 1) beyond s a) λ p c₁.
    bind (field_in 1 1 (bits_most + 1) beyond s c₁) λ q c₂.
    bind (bits_at p s c₂) λ u c₃.
    bind (bits_at q s c₃) λ v c₄.
    cond (leb 1 (ones_in v)) (got (record { prefix = u; period = v }) c₄) (refused no_one c₃)

-- "state u8 (0 open, 1 closed), then one expression"
unfoldable pub clock_at : List ℕ → List Node → List ClockNode → ℕ → Read ClockNode
clock_at s ws rows a =
    bind (field_in 1 0 2 unknown s a) λ state c.
    bind (expr_at depth_most s ws (map node_of_clock rows) c) λ x d.
    got (record { clock = record { state = state; expr = x.expr }; node = x.node }) d

-- "producer u16, consumer u16", between n clocks
unfoldable pub link_at : List ℕ → ℕ → List Link → ℕ → Read Link
link_at s n xs a =
    bind (field_in 2 0 n absent s a) λ p c.
    bind (field_in 2 0 n absent s c) λ q d.
    got (record { producer = p; consumer = q }) d

-- the words, the clocks' rows and the links, as a sheet
abbrev pub as_read : List Word → List ClockNode → List Link → SheetRead
as_read ws rows ls = record { sheet = record { words = ws; clocks = map clock_of rows; links = ls }; table = map node_of_clock rows }

-- the links and the end, from a on: after the words ws and the clocks of rows
unfoldable pub links_on : List ℕ → List Word → List ClockNode → ℕ → Read SheetRead
links_on s ws rows a =
    bind (section_at (link_at s (length rows)) links_most s a) λ ls c.
    cond (eqb c (length s)) (got (as_read ws rows ls) c) (refused trailing c)

-- the clocks and what follows them
unfoldable pub clocks_on : List ℕ → List Word → ℕ → Read SheetRead
clocks_on s ws a = bind (section_at (clock_at s (word_nodes ws)) clocks_most s a) λ rows c. links_on s ws rows c

-- the sections, from a on
unfoldable pub read_from : ℕ → List ℕ → Read SheetRead
read_from a s = bind (section_at (λ xs a. word_at s a) words_most s a) λ ws c. clocks_on s ws c

-- "Length is tested first. Then the sheet is read left to right and the first fault is given."
unfoldable pub read_sheet : List ℕ → Read SheetRead
read_sheet s = cond (leb (length s) bytes_most) (read_from 0 s) (refused beyond bytes_most)
