-- `judging::scan` meets its contract. The loop's invariant: what is found from the start is what is found from place i on.
-- Assumes nothing.
use Rattle.std.proofs.Common.{◌<◌, get_or, ◌∙◌, sym, arith, w64, to_z}
use Rattle.judging.specs.Bytes.{longest}
use Rattle.judging.proofs.Offsets.{near_more}
use Rattle.judging.proofs.Loops.{plain_before, on_held, near_turn, scan_turn}
use Rattle.judging.proofs.scan.Goals as goal

pub moved_on-d-requires : goal.moved_on-d-requires
moved_on-d-requires c = (
  c.requires.0,
  near_more c.loop-i.i longest (to_z w64 c.loop-i.d-bits) (omega arith) c.loop-i.invariant.0,
  plain_before c.args.pattern.now c.loop-i.i (omega arith),
)

pub loop-i-preserved : goal.loop-i-preserved
loop-i-preserved c = let p = c.args.pattern.now in
    let i = c.loop-i.i in
    let d = to_z w64 c.loop-i.d-bits in
    let b = get_or p i 0 in
    let short : i < longest = omega arith in
    let held = on_held c.args.e c.requires.0 i d b c.moved_on-d.result c.loop-i.invariant.0 short c.moved_on-d.ensures in (
      near_turn c.args.e c.requires.0 i d b c.moved_on-d.result c.loop-i.invariant.0 short c.moved_on-d.ensures,
      c.loop-i.invariant.1
          ∙ scan_turn c.args.e p i i d c.loop-i-test.true _ held (sym c.may_follow.ensures ∙ c.if-not-may_follow.false),
    )
