-- What is proved of sheets, one field for each promise: of a text s of bytes.
use Rattle.std.specs.Prelude.{◌≡◌, ◌≢◌, ◌↔◌, List, ◌∷◌, ◌++◌, ℕ, ◌+◌, ◌≤◌, ◌<◌, length}
use Rattle.reply.specs.Numbers.{missing, trailing}
use Rattle.field.specs.Read.{Read.got, Read.refused}
use Rattle.field.specs.Spelling.{bytes_of}
use Rattle.field.specs.Format.{Fault}
use Rattle.envelope.specs.declared.Node.{Node}
use Rattle.expression.specs.Expression.{Word, Clock, spell_word, spell_clock}
use Rattle.expression.specs.Evaluate.{Worth.fault, evaluate, word_nodes, Worked}
use Rattle.expression.specs.Spelled.{InRange}
use Rattle.expression.specs.Blame.{blame}
use Rattle.sheet.specs.Sheet.{Sheet, words_most, clocks_most, bytes_most, rows, section, spell_sheet, Every, WordRow, ClockRow, Legal}
use Rattle.sheet.specs.Reader.{read_sheet}
use Rattle.sheet.specs.SheetRead.{SheetRead}
use Rattle.sheet.specs.Format.{sheet, Refused, Passed}

-- bytes and values are tied
pub record Tie (s : List ℕ) : Type 0 where
  -- what is accepted is a legal sheet with the table that the rules give it, and its spelling is the text, all of it
  pub accepted_is_spelled : (o : SheetRead) (c : ℕ) → read_sheet s ≡ got o c
      → Legal o.sheet × Worked o.sheet.words o.sheet.clocks o.table × (s ≡ spell_sheet o.sheet) × (c ≡ length s)
  -- every legal sheet that the rules give a table is accepted, with that table
  pub spelled_is_accepted : (v : Sheet) (xs : List Node) → Legal v → Worked v.words v.clocks xs → s ≡ spell_sheet v
      → read_sheet s ≡ got (record { sheet = v; table = xs }) (length s)
  -- no two of them are spelled the same
  pub one_sheet : (v u : Sheet) (xs ys : List Node) → Legal v → Legal u → Worked v.words v.clocks xs → Worked u.words u.clocks ys → spell_sheet v ≡ spell_sheet u
      → (v ≡ u) × (xs ≡ ys)

-- a text that is right up to a clock k: the words, a count, the clocks before k with their nodes xs, then k, and any bytes
pub record UpTo (s : List ℕ) (words : List Word) (clocks : List Clock) (xs : List Node) (k : Clock) : Type 0 where
  pub short_enough : length s ≤ bytes_most
  pub words_within : length words ≤ words_most
  pub words_legal : Every WordRow words
  pub count : ℕ
  pub count_most : count ≤ clocks_most
  pub more : length clocks < count
  pub clocks_legal : Every ClockRow clocks
  pub worked : Worked words clocks xs
  pub clock_legal : ClockRow k
  pub rest : List ℕ
  pub text : s ≡ section spell_word words ++ (bytes_of 2 count ++ (rows spell_clock clocks ++ (spell_clock k ++ rest)))

-- where the expression of the clock after those begins: past the words, the count, the clocks and a state
abbrev pub expr_place : List Word → List Clock → ℕ
expr_place words clocks = length (section spell_word words) + (2 + (length (rows spell_clock clocks) + 1))

-- which refusals are given, and where
pub record Refusals (s : List ℕ) : Type 0 where
  -- "Reply numbers", 1 to 10: each is given exactly when the table says, with its place
  pub given : (number place : ℕ) → (read_sheet s ≡ refused number place) ↔ Refused s number place
  -- and the rest is accepted: what is right to its end
  pub accepted : (o : SheetRead) (c : ℕ) → (read_sheet s ≡ got o c) ↔ (Passed s o × (c ≡ length s))
  -- "bytes after the last link": the first
  pub bytes_after : (v : Sheet) (xs : List Node) (x : ℕ) (rest : List ℕ) → Legal v → Worked v.words v.clocks xs → s ≡ spell_sheet v ++ (x ∷ rest) → length s ≤ bytes_most
      → read_sheet s ≡ refused trailing (length (spell_sheet v))
  -- a clock whose fields are in range and that the rules refuse, after clocks that they don't: their number, at the tag of the node to blame
  pub by_rules : (words : List Word) (clocks : List Clock) (xs : List Node) (k : Clock) (number : ℕ) → UpTo s words clocks xs k
      → InRange (length words) (length clocks) k.expr → evaluate (word_nodes words) xs k.expr ≡ fault number
      → read_sheet s ≡ refused number (expr_place words clocks + blame (word_nodes words) xs k.expr)
  -- a sheet that is cut short: bytes are missing, at the field that is cut
  pub cut_short : (v : Sheet) (xs : List Node) (x : ℕ) (rest : List ℕ) → Legal v → Worked v.words v.clocks xs → s ++ (x ∷ rest) ≡ spell_sheet v
      → (place : ℕ) × Fault s sheet 0 missing place × (read_sheet s ≡ refused missing place)
  -- "the sheet is read left to right and the first fault is given": whatever follows a fault, that fault is given
  pub first_fault : (rest : List ℕ) (number place : ℕ) → read_sheet s ≡ refused number place → number ≢ missing → length (s ++ rest) ≤ bytes_most
      → read_sheet (s ++ rest) ≡ refused number place
  -- a place is one of the text, or its end
  pub within : (number place : ℕ) → read_sheet s ≡ refused number place → place ≤ length s
