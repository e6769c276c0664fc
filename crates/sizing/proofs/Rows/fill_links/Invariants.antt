-- `Rows::fill_links` meets its contract: the rows so far are written and summed up. Assumes nothing.
use mathlib.Core.Path.{refl}
use Rattle.sizing.specs.WorkOut.{link_numbers}
use Rattle.sizing.proofs.Written.{Written, rows_to, Summed}
use Rattle.sizing.proofs.Rows.fill_links.Given as goal

abbrev pub invariant-loop-i : goal.invariant-loop-i
invariant-loop-i l = record {
  summed : Summed l.self.nodes.now l.self.states.now l.self.ends.now l.i l.rooms;
  written : Written link_numbers 3 (λ r. refl) l.initial.list l.i (rows_to l.self.nodes.now l.self.states.now l.self.ends.now l.i) l.list;
}
