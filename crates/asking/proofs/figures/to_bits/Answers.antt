-- `to_bits` keeps its loop's invariant. Assumes nothing.
use Rattle.std.proofs.Common.{ap, ◌∙◌, ℕ, ◌<◌, length, set, get_or, arith}
use Rattle.std.proofs.lemmas.List.{get_or_default}
use Rattle.std.proofs.lemmas.List.Edits.{map_over_more}
use Rattle.asking.specs.Figures.{bit_of}
use Rattle.asking.proofs.figures.to_bits.Goals as goal

pub loop-b-preserved : goal.loop-b-preserved
loop-b-preserved c =
    let i = c.loop-b.b-index in
    let below : i < length c.args.text.now = omega arith in
    let there : i < length c.loop-b.text = omega arith in
    ap (λ (b : ℕ). set c.loop-b.text i b) c.bit_of.ensures ∙ map_over_more bit_of c.args.text.now c.loop-b.text i (get_or c.loop-b.text i 0) below c.loop-b.invariant (get_or_default c.loop-b.text i 0 _ there)
