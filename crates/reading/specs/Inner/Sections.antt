-- What the code's readers of sections answer, and what they leave in the tables that are lent to them: each by the one reader of Reader.antt.
use Rattle.std.specs.Prelude.{◌≡◌, List, map, ℕ, ◌+◌, length, take, Result, Ok, Err}
use Rattle.reply.specs.Numbers.{unknown}
use Rattle.field.specs.Read.{Read, Read.got, Read.refused, bind, mapped}
use Rattle.field.specs.Field.{field_in, read_of}
use Rattle.field.specs.declared.Cursor.{Cursor}
use Rattle.reply.specs.declared.Refusal.{Refusal}
use Rattle.reply.specs.Inner.Causes.{refusal}
use Rattle.envelope.specs.declared.Node.{Node}
use Rattle.expression.specs.Expression.{Word, Clock, depth_most, spell_word}
use Rattle.expression.specs.Evaluate.{word_node, word_nodes}
use Rattle.expression.specs.Reader.{expr_at, node_in}
use Rattle.reading.specs.declared.Mark.{Mark}
use Rattle.reading.specs.declared.Found.{Found}
use Rattle.sheet.specs.Sheet.{Link, section, words_most}
use Rattle.sheet.specs.Reader.{section_at, word_at, links_on, clocks_on}
use Rattle.sheet.specs.SheetRead.{ClockNode, node_of_clock, SheetRead}

-- how many rows there are, and what a table keeps of each
abbrev pub Left : {A B : Type 0} → (A → B) → Read (List A) → Result (ℕ × Cursor) Refusal → List B → Type 0
Left f (got xs c) r t = (read_of r ≡ got (length xs) c) × (take (length xs) t ≡ map f xs)
Left f (refused number place) r t = read_of r ≡ refused number place

-- ---- words

-- their nodes
abbrev pub WordRows : List ℕ → ℕ → Result (ℕ × Cursor) Refusal → List Node → Type 0
WordRows s a r t = Left word_node (section_at (λ xs a. word_at s a) words_most s a) r t

-- ---- clocks

-- a clock as the code keeps it: its state, and of its expression the node
unfoldable pub marked_at : List ℕ → List Node → List Node → ℕ → Read Mark
marked_at s ws cs a =
    bind (field_in 1 0 2 unknown s a) λ state c.
    bind (mapped node_in (expr_at depth_most s ws cs c)) λ x d.
    got (record { state = state; node = x }) d

abbrev pub state_of_row : ClockNode → ℕ
state_of_row r = r.clock.state

-- their nodes in one table and their states in another
pub record ClockRows (x : Read (List ClockNode)) (r : Result (ℕ × Cursor) Refusal) (t : List Node) (ss : List ℕ) : Type 0 where
  pub nodes : Left node_of_clock x r t
  pub states : Left state_of_row x r ss

-- ---- links

-- their ends
abbrev pub ends_of : Link → Link
ends_of l = l

abbrev pub LinkRows : Read (List Link) → Result (ℕ × Cursor) Refusal → List Link → Type 0
LinkRows x r es = Left ends_of x r es

-- ---- a whole sheet

-- what was found of a sheet whose clocks' rows begin at `first`
abbrev pub found_from : ℕ → SheetRead → Found
found_from first o = record { clocks = length o.table; links = length o.sheet.links; clockrows = first }

abbrev pub reading_from : ℕ → Read SheetRead → Result Found Refusal
reading_from first (got o c) = Ok (found_from first o)
reading_from first (refused number place) = Err (refusal number place)

-- they begin behind the words and the count of the clocks
abbrev pub found_of : SheetRead → Found
found_of o = found_from (length (section spell_word o.sheet.words) + 2) o

abbrev pub reading_of : Read SheetRead → Result Found Refusal
reading_of (got o c) = Ok (found_of o)
reading_of (refused number place) = Err (refusal number place)

abbrev pub state_of_clock : Clock → ℕ
state_of_clock c = c.state

-- the links' ends in their table
abbrev pub EndsLeft : Read SheetRead → List Link → Type 0
EndsLeft (got o c) es = take (length o.sheet.links) es ≡ o.sheet.links
EndsLeft (refused number place) es = Unit

-- the clocks' nodes, their states and the links' ends, each in its table
abbrev pub Tabled : Read SheetRead → List Node → List ℕ → List Link → Type 0
Tabled (got o c) t ss es =
    (take (length o.table) t ≡ o.table) × (take (length o.table) ss ≡ map state_of_clock o.sheet.clocks) × EndsLeft (got o c) es
Tabled (refused number place) t ss es = Unit

-- what is answered and left from the links on, whatever the words and the m clocks before them are
abbrev pub ToEnd : List ℕ → ℕ → ℕ → ℕ → Result Found Refusal → List Link → Type 0
ToEnd s first a m r es =
    (ws : List Word) (rows : List ClockNode) → length rows ≡ m → (r ≡ reading_from first (links_on s ws rows a)) × EndsLeft (links_on s ws rows a) es

-- and from the clocks on, whatever words have those nodes
abbrev pub FromClocks : List ℕ → ℕ → List Node → Result Found Refusal → List Node → List ℕ → List Link → Type 0
FromClocks s a xs r t ss es =
    (ws : List Word) → xs ≡ word_nodes ws → (r ≡ reading_from (a + 2) (clocks_on s ws a)) × Tabled (clocks_on s ws a) t ss es
