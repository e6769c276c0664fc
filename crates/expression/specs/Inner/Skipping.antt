-- An expression skipped without evaluating it: node by node, by the tags.
use Rattle.std.specs.Prelude.{List, ℕ}
use Rattle.field.specs.Spelling.{Bytes}
use Rattle.expression.specs.declared.Tag.{Tag}
use Rattle.expression.specs.Expression.{Expr, spell}

-- how many bytes a node has besides its parts: "1 word (u16 index); 2 declared (k i32, K i32, l u32, n u32); .. 5 earlier clock (u16 index)"; one with parts has its tag alone
abbrev pub own_bytes : Tag → ℕ
own_bytes Tag.Word = 3
own_bytes Tag.Declared = 17
own_bytes Tag.Not = 1
own_bytes Tag.On = 1
own_bytes Tag.Clock = 3

-- how many parts: "3 not (one expression); 4 on (two expressions, left first)"
abbrev pub parts_of : Tag → ℕ
parts_of Tag.Word = 0
parts_of Tag.Declared = 0
parts_of Tag.Not = 1
parts_of Tag.On = 2
parts_of Tag.Clock = 0

-- an expression is spelled from a to c
pub record HasExpr (s : List ℕ) (a c : ℕ) : Type 0 where
  pub expr : Expr
  pub bytes : Bytes s a (spell expr) c
