-- `enough` meets its contract: as many bytes as the longest text has are enough, and for fewer the text is measured. Assumes nothing.
use mathlib.Core.Path.{ap}
use Prim.Native.Nat.{ℕ}
use lib.Dec.{leb}
use Rattle.report.specs.Listing.{whole_text}
use Rattle.report.proofs.Texts.{measured}
use Rattle.report.proofs.enough.Goals as goal

pub returns : goal.returns
returns c = ap (λ (x : ℕ). leb x c.args.room) (measured (whole_text _ _ _) c.requires _ _ _ c.put_sheet.ensures)
