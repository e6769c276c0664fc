-- `Rows::of` meets its contract: what was found lies within the tables, and is ready. Assumes nothing.
use native.Mathlib.Omega.{arith}
use Rattle.sizing.proofs.Outcome.{found_few, found_ready}
use Rattle.sizing.proofs.Rows.of.Goals as goal

pub shared_ref_as_front-result : goal.shared_ref_as_front-result
shared_ref_as_front-result c = omega (arith, found_few _ _ _ _ _ c.requires.1)

pub shared_whole_as_front-result : goal.shared_whole_as_front-result
shared_whole_as_front-result c = omega (arith, found_few _ _ _ _ _ c.requires.1)

pub shared_whole_as_front-result-2 : goal.shared_whole_as_front-result-2
shared_whole_as_front-result-2 c = omega (arith, found_few _ _ _ _ _ c.requires.1)

pub invariant_of-result : goal.invariant_of-result
invariant_of-result c = record { ready = found_ready _ _ _ _ _ c.requires.1 }
