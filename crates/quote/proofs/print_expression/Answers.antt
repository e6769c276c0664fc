-- `print_expression` is safe: three bytes for each byte of the expression lie within the buffer.
use Rattle.std.proofs.Common.{◌≡◌, ap, ◌∙◌, ℕ, ◌*◌, ◌≤◌, List, length, sym, arith, length-take-le}
use Rattle.line.specs.Text.{Out, out_of, put}
use Rattle.line.proofs.Puts.{put_at, put_length}
use Rattle.dump.specs.HexLine.{hex_line}
use Rattle.dump.proofs.HexLine.{hex_length}
use Rattle.quote.proofs.print_expression.Goals as goal

hex_fits : {o : Out} {xs ys : List ℕ} {r : ℕ} (bytes : List ℕ) → o ≡ out_of xs 0 → out_of ys r ≡ put o (hex_line bytes) → length bytes ≤ 32769 → length xs ≡ 3 * 32769 → r ≤ length ys
hex_fits bytes start out h e =
    let q = out ∙ ap (λ (o : Out). put o (hex_line bytes)) start in
    omega (arith, hex_length bytes, put_at _ _ _ 0 _ (omega arith) q, put_length _ _ _ _ _ q)

pub slice_bounds-print-end : goal.slice_bounds-print-end
slice_bounds-print-end c = sym (length-take-le _ _ (hex_fits c.args.expression.now c.new-out.ensures.start c.put_hex.ensures.put (omega arith) (omega arith)))
