-- What a function leaves behind a writer.
use Rattle.std.specs.Prelude.{◌≡◌}
use Rattle.line.specs.declared.Writer.{Writer}
use Rattle.line.specs.Text.{Out, out_of}

-- what is in a writer's buffer, and its place
abbrev pub out_in : Writer → Out
out_in w = out_of w.bytes.now w.at

-- the writer still has its buffer, and there is o in it
pub record Leaves (w w' : Writer) (o : Out) : Type 0 where
  pub same : w'.bytes.ghost_name ≡ w.bytes.ghost_name
  pub put : out_in w' ≡ o
