-- The words section as the code reads it: a word by its bits, and the words' nodes in a table.
-- Assumes nothing.
use mathlib.Core.Path.{◌≡◌, subst}
use mathlib.Core.List.{List, []}
use Prim.Native.Nat.{ℕ, ◌+◌, ◌<◌}
use lib.ListN.{length, set}
use Rattle.reply.specs.Numbers.{beyond}
use Rattle.field.specs.Read.{Read, Read.got, Read.refused, mapped}
use Rattle.field.proofs.Read.{mapped_got, mapped_refused}
use Rattle.field.specs.Spelling.{AllBytes}
use Rattle.field.specs.Field.{field_in, read_of}
use Rattle.std.specs.Prelude.{Result}
use Rattle.reply.specs.declared.Refusal.{Refusal}
use Rattle.field.specs.declared.Cursor.{Cursor}
use Rattle.envelope.specs.declared.Node.{Node}
use Rattle.envelope.specs.Envelope.{Taken}
use Rattle.envelope.proofs.Taken.{word_taken}
use Rattle.expression.specs.Expression.{Word}
use Rattle.expression.specs.Evaluate.{word_node}
use Rattle.sheet.specs.Sheet.{words_most}
use Rattle.sheet.specs.Reader.{rows_at, word_at}
use Rattle.reading.specs.Inner.Sections.{WordRows}
use Rattle.sheet.proofs.Spelling.Words.{word_reads}
use Rattle.reading.proofs.Sections.Readings.{reached_refused, section_none, section_rows}
use Rattle.reading.proofs.Sections.RowTables.{Stored, stored_more, reached_left, left_none}

-- what a word gives is taken
pub node_taken : (s : List ℕ) → AllBytes s → (a : ℕ) (x : Node) (c : ℕ) → mapped word_node (word_at s a) ≡ got x c → Taken x.envelope
node_taken s bytes a x c h =
    let r = mapped_got word_node (word_at s a) x c h in
    let l = (word_reads s bytes a r.0 c r.1).0.word in
    subst (λ (y : Node). Taken y.envelope) r.2 (word_taken r.0.prefix r.0.period l)

-- ---- a loop over n words
abbrev pub word_row_at : List ℕ → List Word → ℕ → Read Word
word_row_at s xs a = word_at s a

module _ (s : List ℕ) (n i : ℕ) (t : List Node) (a₀ a : ℕ) (h : Stored (word_row_at s) word_node n i t a₀ a) (more : i < n) where
  pub words_more : (x : Node) (c : ℕ) (t' : List Node) → mapped word_node (word_at s a) ≡ got x c → i < length t → t' ≡ set t i x → Stored (word_row_at s) word_node n (i + 1) t' a₀ c
  words_more x c t' p l q =
      let r = mapped_got word_node (word_at s a) x c p in
      stored_more (word_row_at s) word_node n i t a₀ a h more r.0 c x t' r.1 r.2 l q

  pub words_stop : (number place : ℕ) → mapped word_node (word_at s a) ≡ refused number place → rows_at (word_row_at s) n [] a₀ ≡ refused number place
  words_stop number place p =
      reached_refused (word_row_at s) n i a₀ a h.on more number place (mapped_refused word_node (word_at s a) number place p)

-- ---- the section, by its count
module _ (s : List ℕ) (a : ℕ) (r : Result (ℕ × Cursor) Refusal) (t : List Node) where
  pub words_none : (number place : ℕ) → field_in 2 0 (words_most + 1) beyond s a ≡ refused number place → read_of r ≡ refused number place → WordRows s a r t
  words_none number place count e = left_none word_node _ r t number place (section_none (word_row_at s) words_most s a number place count) e

  module _ (n c : ℕ) (count : field_in 2 0 (words_most + 1) beyond s a ≡ got n c) where
    pub words_refused : (number place : ℕ) → rows_at (word_row_at s) n [] c ≡ refused number place → read_of r ≡ refused number place → WordRows s a r t
    words_refused number place h e = rw (section_rows (word_row_at s) words_most s a n c count, h) e

    pub words_got : (i b : ℕ) → i ≡ n → Stored (word_row_at s) word_node n i t c b → read_of r ≡ got n b → WordRows s a r t
    words_got i b e h p =
        rw (section_rows (word_row_at s) words_most s a n c count) (reached_left (word_row_at s) word_node n t c b i e h.on h.table r p)
