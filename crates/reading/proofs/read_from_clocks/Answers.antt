-- `read_from_clocks` meets its contract. Assumes nothing.
use Rattle.reply.proofs.Refusals.{passed_on}
use Rattle.reading.proofs.Sections.Stages.{clocks_refused, clocks_then}
use Rattle.reading.proofs.read_from_clocks.Goals as goal

pub returns-in_err-m : goal.returns-in_err-m
returns-in_err-m c = rw (passed_on _ _ c.from_residual.ensures) (clocks_refused _ _ _ _ _ _ c.read_clocks.ensures _ _ c.in_err-m.was)

pub returns : goal.returns
returns c = clocks_then _ _ _ _ _ _ c.read_clocks.ensures _ _ c.in_ok-m.was _ _ c.read_to_end.ensures
