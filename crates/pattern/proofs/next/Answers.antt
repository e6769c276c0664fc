-- `pattern::next` meets its contract.
-- Assumes nothing.
use Rattle.std.proofs.Common.{◌≡◌, ◌∷◌, ◌++◌, sym, ◌∙◌, ap, arith, Ok, ℕ, List, take}
use Rattle.judging.specs.Inner.Scan.{end_offset}
use Rattle.pattern.specs.Inner.Lifts.{filled}
use Rattle.pattern.proofs.Answers.{next_last, next_done, short, taken, all_bits, end_held, near_held_lift, near_after}
use Rattle.pattern.proofs.Loops.{raised, left_behind}
use Rattle.pattern.proofs.next.Goals as goal
use Rattle.pattern.proofs.next.Goals.{In_ok-end}

sound : (c : In_ok-end) → Ok c.in_ok-end.end ≡ end_offset c.args.e c.args.pattern.now
sound c = sym c.in_ok-end.was ∙ c.judge.ensures

pub last_lift-requires-clause-taken : goal.last_lift-requires-clause-taken
last_lift-requires-clause-taken c =
    let s = sound (goal.at.last_lift-requires-clause-taken c).In_ok-end in
    (taken _ _ _ s, short _ _ _ s, all_bits _ _ _ s)

pub last_lift-requires-clause-end_value : goal.last_lift-requires-clause-end_value
last_lift-requires-clause-end_value c = end_held _ _ _ (sound (goal.at.last_lift-requires-clause-end_value c).In_ok-end)

pub returns-in_default : goal.returns-in_default
returns-in_default c =
    next_last _ _ _ (sound (goal.at.returns-in_default c).In_ok-end) _ c.last_lift.ensures.lift c.in_default.is

pub moved_on-after-requires : goal.moved_on-after-requires
moved_on-after-requires c =
    let s = sound (goal.at.moved_on-after-requires c).In_ok-end in
    (taken _ _ _ s, near_held_lift _ _ _ s _ c.last_lift.ensures.lift c.in-Some.field-0 c.in-Some.is, omega arith)

pub fill-requires : goal.fill-requires
fill-requires c =
    let s = sound (goal.at.fill-requires c).In_ok-end in
    let left = left_behind c.args.pattern.now c.in-Some.field-0.place in
    let most = short _ _ _ s in (
      taken _ _ _ s,
      omega (arith, left, most),
      rw left (near_after _ _ _ s _ c.last_lift.ensures.lift c.in-Some.field-0 c.in-Some.is _ c.moved_on-after.ensures _ (omega (arith, most, c.in-Some.ensures.within))),
    )

pub returns : goal.returns
returns c =
    let p = c.args.pattern.now in
    let t = c.in-Some.field-0.place in
    let rest = c.fill.ensures ∙ ap (filled _ _) (left_behind p t) in
    next_done _ _ _ (sound (goal.at.returns c).In_ok-end) _ c.last_lift.ensures.lift c.in-Some.field-0 c.in-Some.is _ c.moved_on-after.ensures _
    (raised p t c.fill.new.rest c.in-Some.ensures.within ∙ ap (λ (ys : List ℕ). take t p ++ (1 ∷ ys)) rest)
