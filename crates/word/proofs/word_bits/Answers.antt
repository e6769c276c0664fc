-- `word_bits` meets its contract: the bits are counted, and the word is made of them where they lie.
-- Assumes nothing.
use Rattle.std.proofs.Common.{sym, arith}
use native.Mathlib.Nat.{pos_of_ne-zero}
use Rattle.word.proofs.BitCounts.{Lain, lain}
use Rattle.word.proofs.word_bits.Goals as goal
use Rattle.word.proofs.word_bits.Goals.{In_ok-ones}

-- where the bits lie, once both parts are read
lay : (c : In_ok-ones) → Lain c.args.prefix c.args.period c.args.s.now c.args.start.at c.in_ok-c.c.at c.in_ok-ones.d.at c.in_ok-ones.ones
lay c = lain _ _ c.args.s.now (λ j. (c.type_inv.s j).fits) _ _ _ c.requires.2 _ _ (sym c.in_ok-c.ensures.read) (sym c.in_ok-ones.ensures.read)

pub returns-then-ones-eq0 : goal.returns-then-ones-eq0
returns-then-ones-eq0 c = rw c.refusal.ensures (sym ((lay (goal.at.returns-then-ones-eq0 c).In_ok-ones).without c.if-ones-eq0.true))

pub slice_bounds-envelope_of-count : goal.slice_bounds-envelope_of-count
slice_bounds-envelope_of-count c = (lay (goal.at.slice_bounds-envelope_of-count c).In_ok-ones).from

pub slice_bounds-envelope_of-start : goal.slice_bounds-envelope_of-start
slice_bounds-envelope_of-start c = (lay (goal.at.slice_bounds-envelope_of-start c).In_ok-ones).from

pub envelope_of-envelope-requires : goal.envelope_of-envelope-requires
envelope_of-envelope-requires c =
    let l = lay (goal.at.envelope_of-envelope-requires c).In_ok-ones in
    let h = c.requires in
    record {
      prefix_in_bounds = (omega (arith, l.many), omega (arith, l.many), omega (arith, l.many));
      ones_nonzero = (pos_of_ne-zero c.if-ones-eq0.false, omega (arith, l.most), l.ones);
    }

pub returns : goal.returns
returns c = rw c.envelope_of-envelope.ensures (sym ((lay (goal.at.returns c).In_ok-ones).is (pos_of_ne-zero c.if-ones-eq0.false)))
