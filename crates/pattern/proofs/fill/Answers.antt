-- `pattern::fill` meets its contract. The loop's invariant: what is to be written is what stands before the index, and what is still to come.
-- Assumes nothing.
use Rattle.std.proofs.Common.{◌≡◌, ℕ, ◌+◌, ◌-◌, ◌≤◌, ◌<◌, ℤ, length, sym, ap, subst, ◌∙◌, add_assoc, arith, to_z-of_z, w64, to_z}
use Rattle.judging.specs.Bytes.{longest}
use Rattle.pattern.specs.Inner.Lifts.{filled}
use Rattle.judging.proofs.Offsets.{near_more}
use Rattle.judging.proofs.Loops.{on_held, near_turn}
use Rattle.pattern.proofs.Loops.{least_bit, fill_turn, fill_end}
use Rattle.pattern.proofs.fill.Goals as goal

pub moved_on-d-requires : goal.moved_on-d-requires
moved_on-d-requires c = (
  c.requires.0,
  near_more _ longest _ (omega arith) c.loop-bit.invariant.0,
  subst (λ (b : ℕ). b ≤ 1) (sym c.least_at-b.ensures) (least_bit c.args.e (to_z w64 c.loop-bit.d-bits)),
)

pub loop-bit-preserved : goal.loop-bit-preserved
loop-bit-preserved c = let e = c.args.e in
    let n = length c.args.rest.now in
    let i = c.loop-bit.bit-index in
    let k = longest - n + i in
    let d = to_z w64 c.loop-bit.d-bits in
    let b = c.least_at-b.result in
    let short : k < longest = omega arith in
    let in_p : i < n = omega arith in
    let same : length c.loop-bit.rest ≡ n = omega arith in
    let held = on_held e c.requires.0 k d b c.moved_on-d.result c.loop-bit.invariant.0 short c.moved_on-d.ensures in (
      rw (← add_assoc (longest - n) i 1) (near_turn e c.requires.0 k d b c.moved_on-d.result c.loop-bit.invariant.0 short c.moved_on-d.ensures),
      c.loop-bit.invariant.1 ∙ fill_turn e c.loop-bit.rest n i d b same in_p c.least_at-b.ensures _ held,
    )

pub returns : goal.returns
returns c =
    let n = length c.args.rest.now in
    let same : length c.loop-bit.rest ≡ n = omega arith in
    let past : n ≤ c.loop-bit.bit-index = omega arith in
    fill_end c.args.e c.loop-bit.rest n c.loop-bit.bit-index (to_z w64 c.loop-bit.d-bits) same past
    ∙ sym c.loop-bit.invariant.1
    ∙ ap (λ (d : ℤ). filled c.args.e d n) (to_z-of_z c.ranges.start)
