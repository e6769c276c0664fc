-- The reader of an expression: its value and its node, or the first refusal with its place.
use Rattle.std.specs.Prelude.{List, ℕ}
use Rattle.field.specs.Read.{Read}
use Rattle.field.specs.Run.{run}
use Rattle.envelope.specs.declared.Node.{Node}
use Rattle.expression.specs.Format.{Valued, expression}

-- an expression at a, with d levels left
unfoldable pub expr_at : ℕ → List ℕ → List Node → List Node → ℕ → Read Valued
expr_at d s ws cs a = run (expression d ws cs) s a

-- the code keeps no expression, only its node
abbrev pub node_in : Valued → Node
node_in x = x.node
