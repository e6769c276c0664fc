-- `print_outcome` meets its contract: the line is no longer than the buffer.
use Rattle.std.proofs.Common.{◌≡◌, ap, ◌∙◌, ℕ, ◌^◌, ◌≤◌, ◌<◌, List, length, arith, length-append}
use Rattle.line.specs.Text.{Out, out_of, put_line, line_of, outcome_fields}
use Rattle.line.proofs.Puts.{put_line_lem, put_at, put_length}
use Rattle.line.proofs.Digits.{length_most}
use Rattle.terminal.proofs.Counted.{counted}
use Rattle.terminal.proofs.complaint.Streams.print_outcome.Goals as goal

line_fits : (word : List ℕ) (number place : ℕ) → length word ≤ 7 → number < 2 ^ 64 → place < 2 ^ 64 → length (line_of word (outcome_fields number place)) ≤ 64
unfolding line_of
line_fits word number place h m n = simp length-append (omega (arith, length_most 19 number (omega arith), length_most 19 place (omega arith)))

outcome_fits : {o : Out} {xs ys : List ℕ} {r : ℕ} (word : List ℕ) (number place : ℕ) → o ≡ out_of xs 0 → out_of ys r ≡ put_line o word (outcome_fields number place)
    → length xs ≡ 64 → length word ≤ 7 → number < 2 ^ 64 → place < 2 ^ 64 → r ≤ length ys
outcome_fits word number place start put e h m n =
    let q = put ∙ ap (λ (o : Out). put_line o word (outcome_fields number place)) start ∙ put_line_lem _ word (outcome_fields number place) in
    omega (arith, line_fits word number place h m n, put_at _ _ _ 0 _ (omega arith) q, put_length _ _ _ _ _ q)

pub slice_bounds-print-end : goal.slice_bounds-print-end
slice_bounds-print-end c =
    (counted _ _ (outcome_fits c.args.word.now c.args.number c.args.place c.new-out.ensures.start c.put_outcome.ensures.put (omega arith) (omega arith) (omega arith) (omega arith))).1
