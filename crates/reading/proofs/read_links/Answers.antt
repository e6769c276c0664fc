-- `read_links` meets its contract: the ends of the links so far are in their table, and the others stand at the cursor.
-- Assumes nothing.
use Rattle.std.proofs.Common.{◌≡◌, Ok, refl, sym, arith}
use Rattle.field.proofs.Fields.{there}
use Rattle.sheet.specs.Sheet.{links_most}
use Rattle.sheet.specs.Reader.{link_at}
use Rattle.reading.specs.Inner.Sections.{ends_of}
use Rattle.field.proofs.Read.{read_passed_on}
use Rattle.reading.proofs.Sections.Readings.{section_none, section_rows, reached_refused}
use Rattle.reading.proofs.Sections.RowTables.{stored_none, stored_more, reached_left, left_none}
use Rattle.reading.proofs.Sections.LinkTable.{link_anywhere}
use Rattle.reading.proofs.read_links.Goals as goal

pub returns-in_err-many : goal.returns-in_err-many
returns-in_err-many c =
    left_none ends_of _ _ _ _ _ (section_none (link_at _ _) links_most _ _ _ _ (sym c.in_err-many.ensures)) (read_passed_on _ _ c.from_residual.ensures refl)

pub loop-i-init : goal.loop-i-init
loop-i-init c = record { few = omega (arith, (there _ _ _ _ _ _ c.within.ensures c.in_ok-many.was).most); so_far = stored_none (link_at _ _) ends_of _ _ _ }

pub returns-in_err-link : goal.returns-in_err-link
returns-in_err-link c =
    rw (section_rows (link_at _ _) links_most _ _ _ _ (sym c.in_ok-many.ensures))
    (left_none ends_of _ _ _ _ _
    (reached_refused _ _ _ _ _ c.loop-i.invariant.so_far.on c.loop-i-test.true _ _ (link_anywhere _ _ _ _ _ (sym c.in_err-link.ensures)))
    (read_passed_on _ _ c.from_residual-in_err-link.ensures refl))

pub loop-i-preserved : goal.loop-i-preserved
loop-i-preserved c =
    let v = c.loop-i.invariant in
    record {
      few = v.few;
      so_far = stored_more _ ends_of _ _ _ _ _ v.so_far c.loop-i-test.true _ _ _ _ (link_anywhere _ _ _ _ _ (sym c.in_ok-link.ensures)) refl (omega arith) refl;
    }

pub returns : goal.returns
returns c =
    let h = c.loop-i.invariant.so_far in
    let done : c.loop-i.i ≡ c.in_ok-many.many = omega arith in
    rw (section_rows (link_at _ _) links_most _ _ _ _ (sym c.in_ok-many.ensures))
    (reached_left _ ends_of _ _ _ _ _ done h.on h.table (Ok (c.in_ok-many.many, c.loop-i.c)) refl)
