-- The clocks section as the code reads it: a clock's state and node, the nodes in one table and the states in another.
-- Assumes nothing.
use mathlib.Core.Path.{◌≡◌, refl, sym, ap, ◌∙◌}
use mathlib.Core.List.{List, [], map}
use Prim.Native.Nat.{ℕ, ◌+◌, ◌<◌}
use lib.ListN.{length, take, set}
use Rattle.reply.specs.Numbers.{beyond, unknown}
use Rattle.field.specs.Read.{Read, Read.got, Read.refused, bind, mapped}
use Rattle.field.specs.Field.{field_in, read_of}
use Rattle.std.specs.Prelude.{Result}
use Rattle.reply.specs.declared.Refusal.{Refusal}
use Rattle.field.specs.declared.Cursor.{Cursor}
use Rattle.field.proofs.Read.{mapped_got, mapped_refused}
use Rattle.envelope.specs.declared.Node.{Node}
use Rattle.expression.specs.Expression.{depth_most}
use Rattle.expression.specs.Reader.{expr_at, node_in}
use Rattle.expression.specs.Format.{Valued}
use Rattle.sheet.specs.Sheet.{clocks_most}
use Rattle.sheet.specs.Reader.{rows_at, section_at, clock_at}
use Rattle.sheet.specs.SheetRead.{ClockNode, node_of_clock}
use Rattle.reading.specs.declared.Mark.{Mark}
use Rattle.reading.specs.Inner.Sections.{marked_at, state_of_row, ClockRows}
use Rattle.reading.proofs.Sections.Readings.{section_none, section_rows, Reached, reached_none, reached_more, reached_refused}
use Rattle.reading.proofs.Sections.RowTables.{table_keeps, reached_left, left_none}

-- ---- a clock, with the expression left out
abbrev mark_of : ClockNode → Mark
mark_of r = record { state = state_of_row r; node = node_of_clock r }

mark_is : (s : List ℕ) (ws : List Node) (rows : List ClockNode) (a : ℕ) → marked_at s ws (map node_of_clock rows) a ≡ mapped mark_of (clock_at s ws rows a)
unfolding marked_at clock_at
mark_is s ws rows a = by_state (field_in 1 0 2 unknown s a)
  where
    by_expression : (state : ℕ) (r : Read Valued) → bind (mapped node_in r) (λ x d. got (record { state = state; node = x }) d)
        ≡ mapped mark_of (bind r (λ x d. got (record { clock = record { state = state; expr = x.expr }; node = x.node }) d))
    by_expression state (got x d) = refl
    by_expression state (refused number place) = refl

    by_state : (r : Read ℕ) → bind r (λ state c. bind (mapped node_in (expr_at depth_most s ws (map node_of_clock rows) c)) (λ x d. got (record { state = state; node = x }) d))
        ≡ mapped mark_of (bind r (λ state c. bind (expr_at depth_most s ws (map node_of_clock rows) c) (λ x d. got (record { clock = record { state = state; expr = x.expr }; node = x.node }) d)))
    by_state (got state c) = by_expression state (expr_at depth_most s ws (map node_of_clock rows) c)
    by_state (refused number place) = refl

-- ---- a loop over n clocks: i of them are read, their nodes and states stored
pub record Kept (s : List ℕ) (ws : List Node) (n i : ℕ) (t : List Node) (ss : List ℕ) (a₀ a : ℕ) : Type 0 where
  pub on : Reached (clock_at s ws) n i a₀ a
  pub nodes : take i t ≡ map node_of_clock on.so_far
  pub states : take i ss ≡ map state_of_row on.so_far

pub kept_none : (s : List ℕ) (ws : List Node) (n : ℕ) (t : List Node) (ss : List ℕ) (a : ℕ) → Kept s ws n 0 t ss a a
unfolding reached_none
kept_none s ws n t ss a = record { on = reached_none (clock_at s ws) n a; nodes = refl; states = refl }

module _ (s : List ℕ) (ws : List Node) (n i : ℕ) (t : List Node) (ss : List ℕ) (a₀ a : ℕ) (h : Kept s ws n i t ss a₀ a) where
  -- the next clock, after those of the part of the table that is lent
  next_is : (r : Read Mark) → marked_at s ws (take i t) a ≡ r → mapped mark_of (clock_at s ws h.on.so_far a) ≡ r
  next_is r e = sym (mark_is s ws h.on.so_far a) ∙ ap (λ (xs : List Node). marked_at s ws xs a) (sym h.nodes) ∙ e

  module _ (more : i < n) where
    pub kept_more :
        (m : Mark) (c : ℕ) (t' : List Node) (ss' : List ℕ) →
        marked_at s ws (take i t) a ≡ got m c →
        i < length t →
        i < length ss →
        t' ≡ set t i m.node →
        ss' ≡ set ss i m.state →
        Kept s ws n (i + 1) t' ss' a₀ c
    unfolding reached_more
    kept_more m c t' ss' p l k q e =
        let r = mapped_got mark_of (clock_at s ws h.on.so_far a) m c (next_is (got m c) p) in
        let x : node_of_clock r.0 ≡ m.node = ap (λ (y : Mark). y.node) r.2 in
        let y : state_of_row r.0 ≡ m.state = ap (λ (y : Mark). y.state) r.2 in
        record {
          on = reached_more (clock_at s ws) n i a₀ a h.on more r.0 c r.1;
          nodes = table_keeps (clock_at s ws) node_of_clock i t t' h.on.so_far r.0 m.node h.nodes x l q;
          states = table_keeps (clock_at s ws) state_of_row i ss ss' h.on.so_far r.0 m.state h.states y k e;
        }

    pub kept_refused : (number place : ℕ) → marked_at s ws (take i t) a ≡ refused number place → rows_at (clock_at s ws) n [] a₀ ≡ refused number place
    kept_refused number place p =
        reached_refused (clock_at s ws) n i a₀ a h.on more number place
        (mapped_refused mark_of (clock_at s ws h.on.so_far a) number place (next_is (refused number place) p))

  pub kept_all : i ≡ n → (r : Result (ℕ × Cursor) Refusal) → read_of r ≡ got n a → ClockRows (rows_at (clock_at s ws) n [] a₀) r t ss
  kept_all e r p =
      record {
        nodes = reached_left (clock_at s ws) node_of_clock n t a₀ a i e h.on h.nodes r p;
        states = reached_left (clock_at s ws) state_of_row n ss a₀ a i e h.on h.states r p;
      }

-- rows that are refused
pub clocks_refused : (X : Read (List ClockNode)) (r : Result (ℕ × Cursor) Refusal) (t : List Node) (ss : List ℕ) (number place : ℕ) → X ≡ refused number place → read_of r ≡ refused number place → ClockRows X r t ss
clocks_refused X r t ss number place h e =
    record { nodes = left_none node_of_clock X r t number place h e; states = left_none state_of_row X r ss number place h e }

-- ---- the section, by its count
module _ (s : List ℕ) (xs : List Node) (a : ℕ) (r : Result (ℕ × Cursor) Refusal) (t : List Node) (ss : List ℕ) where
  pub section_refused : (number place : ℕ) → field_in 2 0 (clocks_most + 1) beyond s a ≡ refused number place → read_of r ≡ refused number place
      → ClockRows (section_at (clock_at s xs) clocks_most s a) r t ss
  section_refused number place count e =
      clocks_refused (section_at (clock_at s xs) clocks_most s a) r t ss number place (section_none (clock_at s xs) clocks_most s a number place count) e

  pub section_left : (n c : ℕ) → field_in 2 0 (clocks_most + 1) beyond s a ≡ got n c → ClockRows (rows_at (clock_at s xs) n [] c) r t ss
      → ClockRows (section_at (clock_at s xs) clocks_most s a) r t ss
  section_left n c count h = rw (section_rows (clock_at s xs) clocks_most s a n c count) h
