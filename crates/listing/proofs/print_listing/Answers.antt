-- `print_listing` is safe: the text that was listed lies within the buffer.
use Rattle.std.proofs.Common.{sym, length-take-le}
use Rattle.report.proofs.Within.{within}
use Rattle.listing.proofs.print_listing.Goals as goal

pub slice_bounds-text-end : goal.slice_bounds-text-end
slice_bounds-text-end c = within _ _ _ _ _ c.list.ensures c.in-Ok.is

pub slice_bounds-print-end : goal.slice_bounds-print-end
slice_bounds-print-end c = sym (length-take-le _ _ (within _ _ _ _ _ c.list.ensures c.in-Ok.is))
