-- `list` meets its contract: the sheet is read, and then its listing, or its refusal, is written. Assumes nothing.
use mathlib.Core.Path.{sym, ◌∙◌}
use Rattle.reply.proofs.Refusals.{passed_on}
use Rattle.sizing.specs.Inner.Rows.{FoundIn}
use Rattle.report.proofs.Texts.{listed_refused, text_most, listed_good}
use Rattle.report.proofs.list.Goals.{In_ok-found}
use Rattle.report.proofs.list.Goals as goal

found : (c : In_ok-found) → FoundIn c.args.sheet.now c.in_ok-found.found c.read.new.tables.nodes c.read.new.tables.states c.read.new.tables.ends
found c = record { bytes = λ j. (c.type_inv.sheet j).fits; told = sym c.read.ensures.found ∙ c.in_ok-found.was; tabled = c.read.ensures.tables }

pub list_rows-requires : goal.list_rows-requires
list_rows-requires c = let f = found (goal.at.list_rows-requires c).In_ok-found in text_most _ f _ _ _ (c.of.ensures _ f)

pub returns : goal.returns
returns c = let f = found (goal.at.returns c).In_ok-found in
    listed_good _ f _ _ _ (c.of.ensures _ f) _ _ _ c.list_rows.ensures.listed c.list_rows.ensures.text

pub returns-in_err-found : goal.returns-in_err-found
returns-in_err-found c = rw (passed_on _ _ c.from_residual.ensures) (listed_refused _ _ _ (sym c.read.ensures.found ∙ c.in_err-found.was))
