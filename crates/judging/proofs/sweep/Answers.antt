-- `judging::sweep` meets its contract. The loop's invariant: x is within the room, and what is scanned from there on is what is scanned from the start.
-- Assumes nothing.
use Rattle.std.proofs.Common.{◌+◌, ◌*◌, ◌≤◌, get_or, pos, ◌+ℤ◌, ◌∙◌, add_assoc, arith}
use Rattle.envelope.proofs.Held.{n_small}
use Rattle.judging.specs.Inner.Scan.{floor_of}
use Rattle.judging.proofs.Offsets.{product_most}
use Rattle.judging.proofs.Loops.{plain_before, scan_turn}
use Rattle.judging.proofs.Sweeps.{on_floor, may_floor, room_small, not_wrapped}
use Rattle.judging.proofs.sweep.Goals as goal

pub loop-b-preserved : goal.loop-b-preserved
loop-b-preserved c =
    let e = c.args.e in
    let t = c.requires.taken.0 in
    let p = c.args.bits.now in
    let j = c.loop-b.b-index in
    let x = c.loop-b.x in
    let b = get_or p j 0 in
    let room : c.args.room ≤ 2_001_000_000 = room_small e t c.args.room c.requires.e_value.0 in
    let bit : b ≤ 1 = plain_before p j (omega arith) in
    let on = not_wrapped x (e.l * b) e.n (omega (arith, c.loop-b.invariant.0)) (product_most e t b bit) (n_small e t) (omega (arith, c.if-room-x.false)) in (
      c.if-room-x.false,
      λ i. rw (← add_assoc i j 1)
          (c.loop-b.invariant.1 i
          ∙ scan_turn e p (i + j) j (pos x +ℤ floor_of e) c.loop-b-test.true _ (on_floor e x _ b bit on) (may_floor e x _ c.args.room c.requires.e_value.0 c.loop-b.invariant.0 c.if-room-x.false b bit on)),
    )
