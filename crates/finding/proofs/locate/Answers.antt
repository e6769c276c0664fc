-- `locate` meets its contract. The loop's invariant: the next clock begins at `at`. Assumes nothing.
use Prim.Native.Nat.{◌+◌}
use native.Mathlib.Omega.{arith}
use Rattle.field.proofs.Spelling.{end}
use Rattle.expression.specs.Inner.Skipping.{HasExpr}
use Rattle.sheet.specs.Sheet.{Sheet}
use Rattle.sheet.specs.Locating.{clock_place}
use Rattle.finding.specs.Inner.Skipping.{HasClocks}
use Rattle.finding.proofs.Skips.{clock_expr}
use Rattle.finding.proofs.locate.Goals as goal
use Rattle.finding.proofs.locate.Goals.{In-loop}

-- behind the state of clock j stands its expression
expr : (c : In-loop) {v : Sheet} → HasClocks c.args.s.now c.args.first c.args.i v → HasExpr c.args.s.now (c.loop.at + 1) (clock_place v (c.loop.counter + 1))
expr c {v} h = clock_expr h c.loop.counter c.loop.at (c.loop.invariant v h) c.loop-test.true

pub overflow_add-at : goal.overflow_add-at
overflow_add-at c = record { fits = omega (arith, end (expr (goal.at.overflow_add-at c).In-loop c.requires.1).bytes) }

pub past-at-requires : goal.past-at-requires
past-at-requires c = (_, expr (goal.at.past-at-requires c).In-loop c.requires.1)

pub loop-preserved : goal.loop-preserved
loop-preserved c = λ v h. c.past-at.ensures _ (expr (goal.at.loop-preserved c).In-loop h)
