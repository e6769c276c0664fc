-- `read_words` meets its contract: the words so far are in the table, and the others stand at the cursor.
-- Assumes nothing.
use Rattle.std.proofs.Common.{◌≡◌, Ok, refl, sym, ap, arith}
use lib.ListN.{set}
use Rattle.field.proofs.Fields.{there}
use Rattle.envelope.specs.declared.Node.{Node}
use Rattle.field.proofs.Read.{read_passed_on}
use Rattle.reading.proofs.Sections.RowTables.{stored_none}
use Rattle.reading.proofs.Sections.WordTable.{node_taken, words_more, words_stop, words_none, words_refused, words_got}
use Rattle.reading.proofs.read_words.Goals as goal

pub returns-in_err-n : goal.returns-in_err-n
returns-in_err-n c = words_none _ _ _ _ _ _ (sym c.in_err-n.ensures) (read_passed_on _ _ c.from_residual.ensures refl)

pub loop-i-init : goal.loop-i-init
loop-i-init c = record { few = omega (arith, (there _ _ _ _ _ _ c.within.ensures c.in_ok-n.was).most); so_far = stored_none _ _ _ _ _ }

pub returns-in_err-x : goal.returns-in_err-x
returns-in_err-x c = words_refused _ _ _ _ _ _ (sym c.in_ok-n.ensures) _ _
    (words_stop _ _ _ _ _ _ c.loop-i.invariant.so_far c.loop-i-test.true _ _ (sym c.in_err-x.ensures))
    (read_passed_on _ _ c.from_residual-in_err-x.ensures refl)

pub of-requires : goal.of-requires
of-requires c = node_taken c.args.s.now (λ j. (c.type_inv.s j).fits) _ _ _ (sym c.in_ok-x.ensures)

pub loop-i-preserved : goal.loop-i-preserved
loop-i-preserved c =
    let v = c.loop-i.invariant in
    record {
      few = v.few;
      so_far = words_more _ _ _ _ _ _ v.so_far c.loop-i-test.true c.in_ok-x.x _ _ (sym c.in_ok-x.ensures) (omega arith) (ap (λ (x : Node). set c.loop-i.table c.loop-i.i x) c.of.ensures);
    }

pub returns : goal.returns
returns c = let done : c.loop-i.i ≡ c.in_ok-n.n = omega arith in
    words_got _ _ (Ok (c.in_ok-n.n, c.loop-i.c)) _ _ _ (sym c.in_ok-n.ensures) _ _ done c.loop-i.invariant.so_far refl
