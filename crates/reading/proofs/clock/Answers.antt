-- `clock` meets its contract: a state is 0 or 1.
-- Assumes nothing.
use Rattle.std.proofs.Common.{arith}
use Rattle.field.proofs.Fields.{there}
use Rattle.reading.proofs.clock.Goals as goal

pub overflow_cast-result : goal.overflow_cast-result
overflow_cast-result c = record { fits = omega (arith, (there _ _ _ _ _ _ c.within.ensures c.in_ok-state.was).most) }
