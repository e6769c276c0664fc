-- Which node of an expression is to blame where the rules refuse it: the first that is complete and has no envelope.
use Rattle.std.specs.Prelude.{List, ℕ, ◌+◌, length}
use Rattle.envelope.specs.declared.Node.{Node}
use Rattle.expression.specs.Expression.{Expr, spell}
use Rattle.expression.specs.Expression.Expr.{word, declared, negated, on, clock}
use Rattle.expression.specs.Evaluate.{Worth, Worth.good, Worth.fault, evaluate}

-- a part that is refused is to blame before the node over it
abbrev pub faulty : Worth → ℕ → ℕ → ℕ
faulty (good a) here inside = here
faulty (fault number) here inside = inside

-- of two parts, the first with so many bytes; each part with how far behind its own first byte
abbrev pub faulty_of : Worth → Worth → ℕ → ℕ → ℕ → ℕ
faulty_of m o size left right = faulty m (faulty o 0 (1 + (size + right))) (1 + left)

-- how far behind the expression's first byte the tag of that node stands: "its tag"
unfoldable pub blame : List Node → List Node → Expr → ℕ
blame ws cs (word i) = 0
blame ws cs (declared k K l n) = 0
blame ws cs (negated x) = faulty (evaluate ws cs x) 0 (1 + blame ws cs x)
blame ws cs (on x y) = faulty_of (evaluate ws cs x) (evaluate ws cs y) (length (spell x)) (blame ws cs x) (blame ws cs y)
blame ws cs (clock i) = 0
