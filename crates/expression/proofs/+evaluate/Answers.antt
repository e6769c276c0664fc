-- What stands at the tag and in each part decides.
use mathlib.Core.Logic.{inl, inr}
use borrow.Author.Rules.{rules}
use Rattle.expression.proofs.Answers.{answer_is}
use Rattle.expression.proofs.+evaluate.Goals as goal
use Rattle.expression.proofs.+evaluate.Goals.{in-Not-tag, in_default-tag+in-Ok-right}

pub returns-in_err-tag : goal.returns-in_err-tag
returns-in_err-tag t c = rw answer_is (search rules)

pub returns-then-depth-eq0 : goal.returns-then-depth-eq0
returns-then-depth-eq0 t c = rw answer_is (search rules)

pub returns-in-Word : goal.returns-in-Word
returns-in-Word t c = rw answer_is (search rules)

pub returns-in-Declared : goal.returns-in-Declared
returns-in-Declared t c = rw answer_is (search rules)

pub returns-in-Clock : goal.returns-in-Clock
returns-in-Clock t c = rw answer_is (search rules)

pub returns-in_default : goal.returns-in_default
returns-in_default t c = elim c.in-Not.is [
  | inl e ↦ rw (answer_is, ← c.in_ok-tag.ensures, e) (search rules)
  | inr e ↦ rw (answer_is, ← c.in_ok-tag.ensures, e) (search rules)
]

pub returns-in_default-right : goal.returns-in_default-right
returns-in_default-right t c = elim c.in-Not.is [
  | inl e ↦ absurd (c.in_default-tag.not-Not e)
  | inr e ↦ rw (answer_is, ← c.in_ok-tag.ensures, e) (search rules)
]

pub returns-after-tag-2 : goal.returns-after-tag-2
returns-after-tag-2 t c = elim c.match-tag-2.branch [
  | in-Not-tag w ↦ rw (answer_is, ← c.in_ok-tag.ensures, w.in-Not-tag.is) (search rules)
  | in_default-tag+in-Ok-right w ↦ elim c.in-Not.is [
    | inl e ↦ absurd (w.in_default-tag.not-Not e)
    | inr e ↦ rw (answer_is, ← c.in_ok-tag.ensures, e) (search rules)
  ]
]
