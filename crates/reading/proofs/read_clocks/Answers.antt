-- `read_clocks` meets its contract: the count was within its limit. Assumes nothing.
use Rattle.std.proofs.Common.{refl, sym, arith}
use Rattle.field.proofs.Fields.{there}
use Rattle.field.proofs.Read.{read_passed_on}
use Rattle.reading.proofs.Sections.ClockTable.{section_refused, section_left}
use Rattle.reading.proofs.read_clocks.Goals as goal

pub returns-in_err-n : goal.returns-in_err-n
returns-in_err-n c = section_refused _ _ _ _ _ _ _ _ (sym c.in_err-n.ensures) (read_passed_on _ _ c.from_residual.ensures refl)

pub clock_rows-requires : goal.clock_rows-requires
clock_rows-requires c = omega (arith, (there _ _ _ _ _ _ c.within.ensures c.in_ok-n.was).most)

pub returns : goal.returns
returns c = section_left _ _ _ _ _ _ _ _ (sym c.in_ok-n.ensures) c.clock_rows.ensures
