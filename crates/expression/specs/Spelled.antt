-- Which expressions are read where: those that are spelled there, not too deep, and that the rules give a node.
use Rattle.std.specs.Prelude.{◌≡◌, List, ℕ, ◌≤◌, ◌<◌}
use Rattle.field.specs.Spelling.{limit, Small, Bytes}
use Rattle.envelope.specs.declared.Node.{Node}
use Rattle.envelope.specs.Made.{Fields}
use Rattle.expression.specs.Expression.{Expr, depth, spell}
use Rattle.expression.specs.Expression.Expr.{word, declared, negated, on, clock}
use Rattle.expression.specs.Evaluate.{Worth.good, evaluate}

-- "u16 index": so many words or clocks can be named
abbrev pub indexes : ℕ
indexes = 65536

-- the numbers of an expression fit their fields, "k i32, K i32, l u32, n u32"
abbrev pub Fits : Expr → Type 0
Fits (word i) = i < indexes
Fits (declared k K l n) = Small k × Small K × (l < limit 4) × (n < limit 4)
Fits (negated x) = Fits x
Fits (on x y) = Fits x × Fits y
Fits (clock i) = i < indexes

-- its indexes are there, among w words and c clocks, and its declared numbers are within their limits
abbrev pub InRange : ℕ → ℕ → Expr → Type 0
InRange w c (word i) = i < w
InRange w c (declared k K l n) = Fields k K l n
InRange w c (negated x) = InRange w c x
InRange w c (on x y) = InRange w c x × InRange w c y
InRange w c (clock i) = i < c

-- x is spelled from a to c, has at most d levels, and its node is e
pub record Spelled (s : List ℕ) (ws cs : List Node) (d a : ℕ) (x : Expr) (e : Node) (c : ℕ) : Type 0 where
  pub shallow : depth x ≤ d
  pub value : evaluate ws cs x ≡ good e
  pub bytes : Bytes s a (spell x) c
