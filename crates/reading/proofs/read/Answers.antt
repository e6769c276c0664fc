-- `read` meets its contract: the words' reader decides, and then what is read from the clocks on. Assumes nothing.
use Rattle.std.proofs.Common.{◌≤◌, ◌∙◌, arith}
use Rattle.sheet.specs.Sheet.{words_most}
use Rattle.reply.proofs.Refusals.{passed_on}
use Rattle.reading.proofs.Sections.Stages.{too_long, words_refused, few_words, words_then}
use Rattle.reading.proofs.read.Goals as goal
use Rattle.reading.proofs.read.Goals.{In_ok-w}

few : (c : In_ok-w) → c.in_ok-w.w ≤ words_most
few c = few_words _ c.if-s-gt-BYTES_MOST.false _ _ c.read_words.ensures _ _ c.in_ok-w.was

pub returns-then-s-gt-BYTES_MOST : goal.returns-then-s-gt-BYTES_MOST
returns-then-s-gt-BYTES_MOST c =
    let a = too_long _ c.args.tables.now.nodes c.args.tables.now.states c.args.tables.now.ends c.if-s-gt-BYTES_MOST.true in
    record { found = rw c.at.ensures a.0; tables = a.1 }

pub returns-in_err-w : goal.returns-in_err-w
returns-in_err-w c =
    let a = words_refused _ c.if-s-gt-BYTES_MOST.false _ _ c.read_words.ensures c.args.tables.now.nodes c.args.tables.now.states c.args.tables.now.ends _ c.in_err-w.was in
    record { found = passed_on _ _ c.from_residual.ensures ∙ a.0; tables = a.1 }

pub shared_whole_as_front-read_from_clocks : goal.shared_whole_as_front-read_from_clocks
shared_whole_as_front-read_from_clocks c = omega (arith, few (goal.at.shared_whole_as_front-read_from_clocks c).In_ok-w)

pub returns : goal.returns
returns c =
    let a = words_then _ c.if-s-gt-BYTES_MOST.false _ _ c.read_words.ensures _ _ c.in_ok-w.was (λ j. (c.type_inv.s j).fits) _ _ _ _ c.read_from_clocks.ensures in
    record { found = a.0; tables = a.1 }
