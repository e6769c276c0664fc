-- A sheet that was read, with the nodes that the rules give its clocks.
use Rattle.std.specs.Prelude.{List}
use Rattle.envelope.specs.declared.Node.{Node}
use Rattle.expression.specs.Expression.{Clock}
use Rattle.sheet.specs.Sheet.{Sheet}

-- a clock and its node
pub record ClockNode : Type 0 where
  pub clock : Clock
  pub node : Node

abbrev pub clock_of : ClockNode → Clock
clock_of r = r.clock

abbrev pub node_of_clock : ClockNode → Node
node_of_clock r = r.node

-- a sheet that was read, with its clocks' nodes
pub record SheetRead : Type 0 where
  pub sheet : Sheet
  pub table : List Node
