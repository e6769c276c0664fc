-- `read_to_end` meets its contract. Assumes nothing.
use Rattle.reply.proofs.Refusals.{passed_on}
use Rattle.reading.proofs.Sections.Stages.{links_refused, links_past, links_got}
use Rattle.reading.proofs.read_to_end.Goals as goal

pub returns-in_err-n : goal.returns-in_err-n
returns-in_err-n c = rw (passed_on _ _ c.from_residual.ensures) (links_refused _ _ _ _ _ _ c.read_links.ensures _ c.in_err-n.was)

pub returns-then-c-s : goal.returns-then-c-s
returns-then-c-s c = rw c.refusal.ensures (links_past _ _ _ _ _ _ c.read_links.ensures _ _ c.in_ok-n.was c.if-c-s.true)

pub returns : goal.returns
returns c = links_got _ _ _ _ _ _ c.read_links.ensures _ _ c.in_ok-n.was c.if-c-s.false
