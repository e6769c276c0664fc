-- What is proved of expressions, one field for each promise.
use Rattle.std.specs.Prelude.{◌≡◌, List, ℕ, ◌+◌, ◌≤◌, ◌<◌, length, take, Result}
use Rattle.std.proofs.Math.Option.{some}
use Rattle.std.proofs.Math.ListN.{get_elem?}
use Rattle.field.specs.Read.{Read.got, Read.refused}
use Rattle.field.specs.Field.{read_of}
use Rattle.field.specs.Spelling.{Bytes}
use Rattle.field.specs.declared.Cursor.{Cursor}
use Rattle.reply.specs.declared.Refusal.{Refusal}
use Rattle.envelope.specs.declared.Node.{Node}
use Rattle.envelope.specs.Stream.{Stream, Lies}
use Rattle.envelope.specs.Envelope.{Taken}
use Rattle.envelope.specs.Word.{LegalWord}
use Rattle.expression.specs.Expression.{Word, Expr, Clock, depth, spell}
use Rattle.expression.specs.Stands.{Stands}
use Rattle.expression.specs.Evaluate.{Worth.good, Worth.fault, evaluate, word_nodes}
use Rattle.expression.specs.Reader.{expr_at}
use Rattle.expression.specs.Format.{Valued}
use Rattle.expression.specs.Inner.Nodes.{AllTaken}
use Rattle.expression.specs.Spelled.{Fits, InRange, Spelled}
use Rattle.expression.specs.Blame.{blame}

-- every word is one that a sheet can hold
abbrev pub AllLegal : List Word → Type 0
AllLegal words = (i : ℕ) (w : Word) → get_elem? words i ≡ some w → LegalWord w.prefix w.period

-- of words, clocks, and the nodes xs that the rules give the clocks
pub record Meaning (words : List Word) (clocks : List Clock) (xs : List Node) : Type 0 where
  -- every clock has a taken envelope
  pub clock_taken : AllTaken xs
  -- and so has every expression over the words and the earlier clocks that the rules give a node
  pub taken : (j : ℕ) (x : Expr) (a : Node) → evaluate (word_nodes words) (take j xs) x ≡ good a → Taken a.envelope
  -- what such an expression can stand for lies in its envelope
  pub sound : (j : ℕ) (x : Expr) (a : Node) (s : Stream) → evaluate (word_nodes words) (take j xs) x ≡ good a → Stands words clocks x s → Lies s a.envelope
  -- what a clock can stand for lies in the clock's envelope
  pub clock_sound : (i : ℕ) (a : Node) (s : Stream) → get_elem? xs i ≡ some a → Stands words clocks (Expr.clock i) s → Lies s a.envelope
  -- such an expression, and every clock, can stand for some stream
  pub some_stream : (j : ℕ) (x : Expr) (a : Node) → evaluate (word_nodes words) (take j xs) x ≡ good a → (s : Stream) × Stands words clocks x s
  pub clock_some : (i : ℕ) → i < length clocks → (s : Stream) × Stands words clocks (Expr.clock i) s

-- of the reader of a text's expressions, over the nodes ws of the words and cs of the earlier clocks
pub record Reading (s : List ℕ) (ws cs : List Node) : Type 0 where
  -- what is accepted is spelled there, is not too deep, and has that node
  pub accepted_is_spelled : (d a : ℕ) (y : Valued) (c : ℕ) → expr_at d s ws cs a ≡ got y c → Spelled s ws cs d a y.expr y.node c
  -- every such expression is accepted
  pub spelled_is_accepted : (d a : ℕ) (x : Expr) (e : Node) (c : ℕ) → Spelled s ws cs d a x e c → expr_at d s ws cs a ≡ got (record { expr = x; node = e }) c
  -- the envelope of what is accepted is taken
  pub accepted_is_taken : (d a : ℕ) (y : Valued) (c : ℕ) → expr_at d s ws cs a ≡ got y c → Taken y.node.envelope
  -- no spelling is the beginning of another: at one place there is one expression at most
  pub one_value : (a : ℕ) (x y : Expr) (c d : ℕ) → Fits x → Fits y → Bytes s a (spell x) c → Bytes s a (spell y) d → (x ≡ y) × (c ≡ d)
  -- one whose fields are in range and that the rules refuse is refused with their number, at the tag of the node to blame
  pub refusal : (d a : ℕ) (x : Expr) (number c : ℕ) → InRange (length ws) (length cs) x → depth x ≤ d → Bytes s a (spell x) c → evaluate ws cs x ≡ fault number
      → expr_at d s ws cs a ≡ refused number (a + blame ws cs x)

-- a contract that gives the reading decides the answer: no second one satisfies it
abbrev pub OneValue : Type 0
OneValue = (r q : Result (Node × Cursor) Refusal) → read_of r ≡ read_of q → r ≡ q
