-- The answers of the evaluator's parts: a node of a table, and a declared one.
use Rattle.std.specs.Prelude.{List, ℕ, ◌+◌}
use Rattle.std.proofs.Math.Option.{Option, none, some}
use Rattle.std.proofs.Math.ListN.{get_elem?}
use Rattle.reply.specs.Numbers.{beyond, absent}
use Rattle.field.specs.Read.{Read, Read.got, Read.refused, bind}
use Rattle.field.specs.Field.{field_at, field_in, signed_in}
use Rattle.envelope.specs.declared.Node.{Node}
use Rattle.envelope.specs.Limits.{l_most, lower_least, lower_most, upper_least, upper_most}
use Rattle.expression.specs.Evaluate.{Worth, Worth.good, Worth.fault, declared_worth}

-- a complete node, or its refusal at the tag
abbrev pub placed : Worth → ℕ → ℕ → Read Node
placed (good x) c tag = got x c
placed (fault number) c tag = refused number tag

-- a node of a table, or the refusal of an index that isn't there
abbrev pub there : Option Node → ℕ → ℕ → Read Node
there (some x) c a = got x c
there none c a = refused absent a

unfoldable pub listed_at : List ℕ → List Node → ℕ → Read Node
listed_at s t a = bind (field_at 2 s a) λ i c. there (get_elem? t i) c a

unfoldable pub declared_at : List ℕ → ℕ → ℕ → Read Node
declared_at s tag a =
    bind (signed_in lower_least lower_most s a) λ k c₁.
    bind (signed_in upper_least upper_most s c₁) λ K c₂.
    bind (field_in 4 1 (l_most + 1) beyond s c₂) λ l c₃.
    bind (field_in 4 1 (l + 1) beyond s c₃) λ n c₄.
    placed (declared_worth k K l n) c₄ tag
