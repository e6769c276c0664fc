-- `offset_span` meets its contract: s is the span of the bits passed, j how many of them are 1.
-- Assumes nothing.
use Rattle.std.proofs.Common.{◌≡◌, Bool, true, false, ℕ, sym, ap, add-one, arith}
use borrow.Author.Tests.{eq-eqb, ne_eqb}
use Rattle.whole.proofs.Machine.{told}
use Rattle.envelope.specs.Stream.{ones}
use Rattle.envelope.specs.Word.{bit_at}
use Rattle.envelope.proofs.Counts.{ones_none, ones_one, ones_zero}
use Rattle.word.proofs.Spans.{span_none, span_one, span_zero}
use Rattle.word.proofs.offset_span.Goals as goal
use Rattle.word.proofs.offset_span.Goals.{then-b-eq1, else-b-eq1}

pub loop-t-init : goal.loop-t-init
loop-t-init c = record { few = omega arith; many = sym (ones_none _); is = sym (span_none _ _ _) }

pub loop-t-preserved : goal.loop-t-preserved
loop-t-preserved c =
    let v = c.loop-t.invariant in
    let b : ℕ → Bool = bit_at c.args.bits.now in
    elim c.if-b-eq1.branch [
      | then-b-eq1 w ↦
          let one : b c.loop-t.t ≡ true = eq-eqb _ _ w.if-b-eq1.true in
          record {
            few = omega (arith, w.j-is);
            many = omega (arith, w.j-is, v.many, ones_one b c.loop-t.t one, ap (ones b) (add-one c.loop-t.t));
            is = rw (w.s-is, w.including-s.ensures, told _ w.offset.type_inv, w.offset.ensures, v.is, v.many, add-one) (sym (span_one b c.args.l c.args.n c.loop-t.t one));
          }
      | else-b-eq1 w ↦
          let none : b c.loop-t.t ≡ false = ne_eqb _ _ w.if-b-eq1.false in
          record {
            few = omega (arith, w.j-is);
            many = omega (arith, w.j-is, v.many, ones_zero b c.loop-t.t none, ap (ones b) (add-one c.loop-t.t));
            is = rw (w.s-is, v.is, add-one) (sym (span_zero b c.args.l c.args.n c.loop-t.t none));
          }
    ]
