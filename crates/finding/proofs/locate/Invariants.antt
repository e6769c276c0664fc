-- `locate` meets its contract. The loop's invariant: the next clock begins at `at`. Assumes nothing.
use mathlib.Core.Path.{◌≡◌}
use Rattle.sheet.specs.Sheet.{Sheet}
use Rattle.sheet.specs.Locating.{clock_place}
use Rattle.finding.specs.Inner.Skipping.{HasClocks}
use Rattle.finding.proofs.locate.Given as goal

abbrev pub invariant-loop : goal.invariant-loop
invariant-loop l = (v : Sheet) → HasClocks l.s l.first l.i v → l.at ≡ clock_place v l.counter
