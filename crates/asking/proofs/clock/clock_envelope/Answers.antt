-- `clock_envelope` meets its contract. Assumes nothing.
use Rattle.std.proofs.Common.{rules, arith, ap, ◌∙◌, Ok}
use Rattle.reply.proofs.Refusals.{passed_on}
use Rattle.field.specs.Spelling.{AllBytes}
use Rattle.asking.proofs.Given.{refused_too, absent_too, there_too}
use Rattle.asking.proofs.clock.clock_envelope.Goals as goal

pub returns-in_err-totals : goal.returns-in_err-totals
returns-in_err-totals c =
    let bytes : AllBytes c.args.sheet.now = search rules in
    rw (passed_on _ _ c.from_residual.ensures) (refused_too _ bytes c.args.clock _ _ (omega arith) (omega arith) _ _ _ c.work_out.ensures _ c.in_err-totals.was)

pub returns-then-totals-clock : goal.returns-then-totals-clock
returns-then-totals-clock c =
    let bytes : AllBytes c.args.sheet.now = search rules in
    rw c.at.ensures (absent_too _ bytes c.args.clock _ _ (omega arith) (omega arith) _ _ _ c.work_out.ensures _ c.in_ok-totals.was c.if-totals-clock.true)

pub overflow_mul-clock : goal.overflow_mul-clock
overflow_mul-clock c =
    let bytes : AllBytes c.args.sheet.now = search rules in
    let w = there_too _ bytes c.args.clock _ _ (omega arith) (omega arith) _ _ _ c.work_out.ensures _ c.in_ok-totals.was (omega (arith, c.if-totals-clock.false)) in
    omega (arith, w.0)

pub numbers_from-requires : goal.numbers_from-requires
numbers_from-requires c =
    let bytes : AllBytes c.args.sheet.now = search rules in
    let w = there_too _ bytes c.args.clock _ _ (omega arith) (omega arith) _ _ _ c.work_out.ensures _ c.in_ok-totals.was (omega (arith, c.if-totals-clock.false)) in
    omega (arith, w.0)

pub returns : goal.returns
returns c =
    let bytes : AllBytes c.args.sheet.now = search rules in
    let w = there_too _ bytes c.args.clock _ _ (omega arith) (omega arith) _ _ _ c.work_out.ensures _ c.in_ok-totals.was (omega (arith, c.if-totals-clock.false)) in
    ap Ok c.numbers_from.ensures ∙ w.1
