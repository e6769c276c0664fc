-- `Rows::fill_clocks` meets its contract: the numbers of the clocks so far are written. Assumes nothing.
use mathlib.Core.Path.{refl}
use lib.ListN.{take}
use Rattle.sizing.specs.WorkOut.{clock_numbers}
use Rattle.sizing.proofs.Written.{Written}
use Rattle.sizing.proofs.Rows.fill_clocks.Given as goal

abbrev pub invariant-loop-i : goal.invariant-loop-i
invariant-loop-i l = Written clock_numbers 4 (λ x. refl) l.initial.list l.i (take l.i l.self.nodes.now) l.list
