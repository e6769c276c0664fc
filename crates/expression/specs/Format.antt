-- "An expression is a tag u8 and its parts": which fields and parts stand where, which tests they keep to, and with which number they fail.
use Rattle.std.specs.Prelude.{cond, List, [], ◌∷◌, ℕ, zero, suc, ◌+◌, eqb, Result, Ok, Err}
use Rattle.std.proofs.Math.Option.{Option, none, some}
use Rattle.std.proofs.Math.ListN.{get_elem?}
use Rattle.reply.specs.declared.Cause.{Cause}
use Rattle.reply.specs.Refusal.{cause_number}
use Rattle.field.specs.Format.{Judged, Judged.passes, Judged.fails, Format, Format.known, Format.field, Format.then, Format.tested, ranged, signed_ranged}
use Rattle.envelope.specs.declared.Envelope.{Envelope}
use Rattle.envelope.specs.declared.Node.{Node}
use Rattle.envelope.specs.Limits.{l_most, lower_least, lower_most, upper_least, upper_most}
use Rattle.envelope.specs.Made.{Made, number_of, declared_of, negated_of, on_within_limits}
use Rattle.expression.specs.declared.Tag.{Tag}
use Rattle.expression.specs.Expression.{tag_number, Expr}

-- an expression and its node
pub record Valued : Type 0 where
  pub expr : Expr
  pub node : Node

-- every tag
abbrev pub tags : List Tag
tags = Tag.Word ∷ (Tag.Declared ∷ (Tag.Not ∷ (Tag.On ∷ (Tag.Clock ∷ []))))

-- the one of these tags that has the number v; "an unknown tag" is 3
abbrev pub tag_of : List Tag → ℕ → Judged Tag
tag_of [] v = fails 3
tag_of (t ∷ ts) v = cond (eqb v (tag_number t)) (passes t) (tag_of ts v)

-- the same, as the code answers it
abbrev pub judged : Result Tag Cause → Judged Tag
judged (Ok t) = passes t
judged (Err cause) = fails (cause_number cause)

abbrev pub tag : Format Tag
tag = tested (field 1) (tag_of tags)

-- "a word, earlier clock .. that isn't there" is 5: an index, which makes an expression and names its node
abbrev pub found : Expr → Option Node → Judged (Expr × Made)
found x none = fails 5
found x (some a) = passes (x, Ok a)

abbrev pub named : (ℕ → Expr) → List Node → Format (Expr × Made)
named make xs = tested (field 2) λ i. found (make i) (get_elem? xs i)

-- two expressions, "left first"
abbrev pub both : Format Valued → (Expr → Expr → Expr) → (Envelope → Envelope → Made) → Format (Expr × Made)
both part make rule =
    then part λ x. then part λ y. known {A = Expr × Made} (make x.expr y.expr, rule x.node.envelope y.node.envelope)

-- what follows a tag: the expression, and what its rule makes of it; `part` is an expression one level down
unfoldable pub parts : List Node → List Node → Format Valued → Tag → Format (Expr × Made)
parts ws cs part Tag.Word = named Expr.word ws
parts ws cs part Tag.Declared =
    then (signed_ranged lower_least lower_most) λ k.
    then (signed_ranged upper_least upper_most) λ K.
    then (ranged 4 1 (l_most + 1) 2) λ l.
    then (ranged 4 1 (l + 1) 2) λ n.
    known {A = Expr × Made} (Expr.declared k K l n, declared_of k K l n)
parts ws cs part Tag.Not = then part λ x. known {A = Expr × Made} (Expr.negated x.expr, negated_of x.node.envelope)
parts ws cs part Tag.On = both part Expr.on on_within_limits
parts ws cs part Tag.Clock = named Expr.clock cs

-- "7, 8 and 9 come when the node is complete", at its tag, its first byte
abbrev pub kept : Expr → Made → Judged Valued
kept x (Ok a) = passes (record { expr = x; node = a })
kept x (Err flaw) = fails (number_of flaw)

-- an expression with d levels left, over the nodes of the words and of the earlier clocks: "A tag is tested for depth after its value"; "a node at depth 13" is 6
unfoldable pub expression : ℕ → List Node → List Node → Format Valued
expression zero ws cs = tested tag λ t. fails 6
expression (suc d) ws cs = tested (then tag λ t. parts ws cs (expression d ws cs) t) λ x. kept x.0 x.1
