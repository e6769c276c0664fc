-- What is proved of a sheet's links, one field for each promise: of a text s of bytes.
use Rattle.std.specs.Prelude.{◌≡◌, ◌⊎◌, List, ℕ, ◌<◌, length}
use Rattle.std.proofs.Math.Option.{some}
use Rattle.std.proofs.Math.ListN.{get_elem?}
use Rattle.field.specs.Read.{Read.got}
use Rattle.envelope.specs.declared.Node.{Node}
use Rattle.envelope.specs.Stream.{Stream, Lies}
use Rattle.link.specs.declared.Verdict.TheVariants.{Accepted}
use Rattle.link.specs.Promise.{Serves}
use Rattle.expression.specs.Expression.{Expr}
use Rattle.expression.specs.Stands.{Stands}
use Rattle.expression.specs.Inner.Nodes.{AllTaken}
use Rattle.sheet.specs.Sheet.{Link}
use Rattle.sheet.specs.Reader.{read_sheet}
use Rattle.sheet.specs.SheetRead.{SheetRead}
use Rattle.sizing.specs.Rooms.{verdict_in}

-- "whichever streams the two clocks can stand for, or any others inside their envelopes": a is one that clock i can stand for, or lies in its envelope
abbrev pub StreamOf : SheetRead → ℕ → Stream → Type 0
StreamOf o i a = Stands o.sheet.words o.sheet.clocks (Expr.clock i) a ⊎ ((x : Node) × (get_elem? o.table i ≡ some x) × Lies a x.envelope)

-- what an accepted sheet's links keep to
pub record Served (s : List ℕ) : Type 0 where
  -- for every accepted link, after any number of instants, reads never exceed writes, and writes minus reads never exceed the size given
  pub serves : (o : SheetRead) (c : ℕ) → read_sheet s ≡ got o c → (m : ℕ) (l : Link) (size : ℕ)
      → get_elem? o.sheet.links m ≡ some l → verdict_in o.table l ≡ Accepted size
      → (a b : Stream) → StreamOf o l.producer a → StreamOf o l.consumer b → Serves a b size
  -- every clock can stand for some stream
  pub some_stream : (o : SheetRead) (c : ℕ) → read_sheet s ≡ got o c → (i : ℕ) → i < length o.sheet.clocks
      → (a : Stream) × Stands o.sheet.words o.sheet.clocks (Expr.clock i) a
  -- every envelope in the table is taken
  pub taken : (o : SheetRead) (c : ℕ) → read_sheet s ≡ got o c → AllTaken o.table
