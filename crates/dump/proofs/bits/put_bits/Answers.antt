-- `put_bits` meets its contract, where there is room: the part holds the figures.
use Rattle.std.proofs.Common.{◌∙◌, ap, map, List, ℕ, arith}
use Rattle.dump.specs.BitLine.{bit_figure}
use Rattle.dump.proofs.BitLine.{piece_put}
use Rattle.dump.proofs.bits.put_bits.Goals as goal

pub returns : goal.returns
returns c = record {
  same = c.put_byte.ensures.same;
  put = c.put_byte.ensures.put ∙ piece_put _ _ _ _ _ _ (omega arith) (omega arith) (omega arith) (omega arith) (c.to_figures.ensures ∙ ap (λ (bits : List ℕ). map bit_figure bits) c.copy_from_slice.ensures.after);
}
