-- `list_rows` meets its contract: nothing is written where there is too little room. Assumes nothing.
use mathlib.Core.Path.{sym, ◌∙◌}
use native.Mathlib.Omega.{arith}
use Rattle.report.specs.Listing.{whole_text}
use Rattle.report.proofs.Texts.{text_fits, text_short}
use Rattle.report.proofs.list_rows.Goals as goal

pub returns-then-enough : goal.returns-then-enough
returns-then-enough c =
    let a = text_fits (whole_text _ _ _) c.requires _ (omega arith) (sym c.enough.ensures ∙ c.if-enough.true) _ _ c.put_sheet.ensures in
    record { listed = a.0; text = a.1 }

pub returns : goal.returns
returns c = let a = text_short (whole_text _ _ _) c.args.text.now (sym c.enough.ensures ∙ c.if-enough.false) in record { listed = rw c.at.ensures a.0; text = a.1 }
