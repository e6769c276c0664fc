-- `word` meets its contract: the two lengths are read, then the bits.
-- Assumes nothing.
use Rattle.std.proofs.Common.{arith}
use Rattle.field.proofs.Fields.{there}
use Rattle.word.proofs.word.Goals as goal

pub word_bits-requires : goal.word_bits-requires
word_bits-requires c =
    let p = there _ _ _ _ _ _ c.within.ensures c.in_ok-prefix.was in
    let q = there _ _ _ _ _ _ c.within-2.ensures c.in_ok-period.was in
    (omega (arith, p.most), omega (arith, q.most), omega (arith, q.past, q.there))
