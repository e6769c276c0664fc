-- `pattern::last_lift` meets its contract. The loop's invariant: d is the offset past the bits that are left, and the lift is that of those.
-- Assumes nothing.
use Rattle.std.proofs.Common.{◌≡◌, ◌++◌, ◌∷◌, [], sym, ap, ◌∙◌, arith, ℤ, length, pos, w64, to_z, of_z, length-append}
use Rattle.whole.proofs.Machine.{told}
use Rattle.judging.specs.Bytes.{longest}
use Rattle.judging.specs.Inner.Scan.{offset_after}
use Rattle.judging.proofs.Offsets.{near_more}
use Rattle.pattern.specs.Inner.Lifts.{reached, lift_of}
use Rattle.pattern.proofs.Offsets.{near_reached}
use Rattle.pattern.proofs.Loops.{bits_snoc, offset_back, lift_found, lift_stays}
use Rattle.pattern.proofs.last_lift.Goals as goal
use Rattle.pattern.proofs.last_lift.Goals.{In-Some, After-moved_back-d, else-b-eq0-via-then-b-eq0+else-one_at, else-b-eq0-via-else-b-eq0}

parts : (c : In-Some) → c.loop-i.i-iterator.iter.iter.rest.now ≡ c.next.new.self.iter.iter.rest.now ++ (c.in-Some.field-0-1.now ∷ [])
parts c = c.in-Some.ensures.steps.1.0

went_back : (c : After-moved_back-d) → offset_after c.args.e (to_z w64 (of_z w64 c.moved_back-d.result)) c.in-Some.field-0-1.now ≡ to_z w64 c.loop-i.d-bits
went_back c = ap (λ (z : ℤ). offset_after c.args.e z c.in-Some.field-0-1.now) (told c.moved_back-d.result c.moved_back-d.type_inv) ∙ c.moved_back-d.ensures

at_b : (c : In-Some) → to_z w64 c.loop-i.d-bits ≡ reached c.args.e (pos 0) (c.next.new.self.iter.iter.rest.now ++ (c.in-Some.field-0-1.now ∷ []))
at_b c = c.loop-i.invariant.3 ∙ ap (reached c.args.e (pos 0)) (parts c)

pub moved_back-d-requires : goal.moved_back-d-requires
moved_back-d-requires c =
    let left = c.loop-i.i-iterator.iter.iter.rest.now in
    let parts_c = parts (goal.at.moved_back-d-requires c).In-Some in (
      c.requires.taken.0,
      rw c.loop-i.invariant.3 (near_more (length left) longest _ (omega arith) (near_reached c.args.e c.requires.taken.0 left)),
      (bits_snoc c.next.new.self.iter.iter.rest.now c.in-Some.field-0-1.now (rw parts_c at c.loop-i.invariant.2)).1,
    )

pub returns-then-one_at-clause-lift : goal.returns-then-one_at-clause-lift
returns-then-one_at-clause-lift c =
    let at = goal.at.returns-then-one_at-clause-lift c in
    let place : c.in-Some.i ≡ length c.next.new.self.iter.iter.rest.now = omega (arith, c.loop-i.invariant.0, c.in-Some.ensures.steps.1.1) in
    rw place
    (sym
    (c.loop-i.invariant.4
    ∙ ap (lift_of c.args.e) (parts at.In-Some)
    ∙ lift_found c.args.e _ _ _ _ (at_b at.In-Some) (went_back at.After-moved_back-d) c.if-b-eq0.true (sym c.one_at.ensures ∙ c.if-one_at.true)))

pub loop-i-preserved : goal.loop-i-preserved
loop-i-preserved c =
    let at = goal.at.loop-i-preserved c in
    let parts_c = parts at.In-Some in
    let before = c.next.new.self.iter.iter.rest.now in
    let b = c.in-Some.field-0-1.now in (
      c.in-Some.ensures.steps.0 ∙ c.loop-i.invariant.0,
      omega (arith, ap length parts_c, length-append before (b ∷ []), c.loop-i.invariant.1),
      (bits_snoc before b (rw parts_c at c.loop-i.invariant.2)).0,
      offset_back c.args.e before b _ _ (at_b at.In-Some) (went_back at.After-moved_back-d),
      c.loop-i.invariant.4
          ∙ ap (lift_of c.args.e) parts_c
          ∙ lift_stays c.args.e before b _ _ (at_b at.In-Some) (went_back at.After-moved_back-d)
          (λ q. elim c.else-b-eq0.branch [ else-b-eq0-via-then-b-eq0+else-one_at w ↦ sym w.one_at.ensures ∙ w.if-one_at.false | else-b-eq0-via-else-b-eq0 w ↦ absurd (w.if-b-eq0.false q) ]),
    )
