-- `to_figures` keeps its loop's invariant. Assumes nothing.
use Rattle.std.proofs.Common.{ap, ◌∙◌, ℕ, ◌<◌, length, set, get_or, arith}
use Rattle.std.proofs.lemmas.List.{get_or_default}
use Rattle.std.proofs.lemmas.List.Edits.{map_over_more}
use Rattle.dump.specs.BitLine.{bit_figure}
use Rattle.dump.proofs.bits.to_figures.Goals as goal

pub loop-bit-preserved : goal.loop-bit-preserved
loop-bit-preserved c =
    let i = c.loop-bit.bit-index in
    let below : i < length c.args.bits.now = omega arith in
    let there : i < length c.loop-bit.bits = omega arith in
    ap (λ (b : ℕ). set c.loop-bit.bits i b) c.bit_figure.ensures ∙ map_over_more bit_figure c.args.bits.now c.loop-bit.bits i (get_or c.loop-bit.bits i 0) below c.loop-bit.invariant (get_or_default c.loop-bit.bits i 0 _ there)
