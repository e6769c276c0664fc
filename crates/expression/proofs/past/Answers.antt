-- What is left to skip shrinks by a node at each turn.
use mathlib.Core.Path.{◌≡◌}
use Prim.Native.Nat.{ℕ, ◌+◌, ◌-◌}
use native.Mathlib.Omega.{arith}
use Rattle.expression.specs.Inner.Skipping.{HasExpr}
use Rattle.expression.proofs.Skips.{Left, left_within, left_tag, left_next, left_none}
use Rattle.expression.proofs.past.Goals as goal
use Rattle.expression.proofs.past.Goals.{After-parts}

next : (c : After-parts) (d : ℕ) → HasExpr c.args.s.now c.args.start d → Left c.args.s.now (c.loop-left.left - 1 + c.parts.result) (c.loop-left.at + c.own_bytes-at.result) d
next c d h = rw (c.parts.ensures, c.own_bytes-at.ensures) (left_next c.unwrap-tag.result c.try_from.ensures c.unwrap-tag.ensures (omega arith) (c.loop-left.invariant d h))

pub bounds-s-at : goal.bounds-s-at
bounds-s-at c = omega (arith, left_within (c.loop-left.invariant c.requires.0 c.requires.1))

pub unwrap-tag-requires : goal.unwrap-tag-requires
unwrap-tag-requires c = left_tag _ c.try_from.ensures (omega arith) (c.loop-left.invariant c.requires.0 c.requires.1)

pub overflow_add-left : goal.overflow_add-left
overflow_add-left c = record { fits = omega (arith, left_within (next (goal.at.overflow_add-left c).After-parts c.requires.0 c.requires.1)) }

pub loop-left-preserved : goal.loop-left-preserved
loop-left-preserved c = next (goal.at.loop-left-preserved c).After-parts

pub returns : goal.returns
returns c = λ d h.
    let z : c.loop-left.left ≡ 0 = omega arith in
    left_none (rw z at (c.loop-left.invariant d h))
