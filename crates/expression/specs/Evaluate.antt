-- What the rules make of an expression: a node with its envelope, or the number of a refusal.
use Rattle.std.specs.Prelude.{◌≡◌, Bool, cond, ◌&&◌, List, map, ℕ, ℤ, leb, length, take, Ok, Err}
use Rattle.std.proofs.Math.Option.{Option, none, some}
use Rattle.std.proofs.Math.ListN.{get_elem?}
use Rattle.reply.specs.Numbers.{beyond, absent}
use Rattle.field.specs.Field.{between_z}
use Rattle.envelope.specs.declared.Envelope.{Envelope}
use Rattle.envelope.specs.declared.Node.{Node}
use Rattle.envelope.specs.Limits.{l_most, lower_least, lower_most, upper_least, upper_most}
use Rattle.envelope.specs.Word.{word_of}
use Rattle.envelope.specs.Made.{Made, number_of, node_of, declared_of, negated_of, on_within_limits}
use Rattle.expression.specs.Expression.{Word, Expr, Clock}
use Rattle.expression.specs.Expression.Expr.{word, declared, negated, on, clock}

pub data Worth : Type 0 where
  good : Node → Worth
  fault : ℕ → Worth

-- what a rule makes, with the number that refuses it
abbrev pub worth_of : Made → Worth
worth_of (Ok x) = good x
worth_of (Err flaw) = fault (number_of flaw)

abbrev pub onward : Worth → (Node → Worth) → Worth
onward (good x) go = go x
onward (fault number) go = fault number

-- what a rule makes of two parts, left first
abbrev pub joint : (Envelope → Envelope → Made) → Worth → Worth → Worth
joint rule m o = onward m λ a. onward o λ b. worth_of (rule a.envelope b.envelope)

-- "a word, earlier clock .. that isn't there"
abbrev pub listed : Option Node → Worth
listed none = fault absent
listed (some x) = good x

-- "k, K, l or n beyond its limit (n also above l)"
unfoldable pub fields_kept : ℤ → ℤ → ℕ → ℕ → Bool
fields_kept k K l n =
    between_z lower_least lower_most k && (between_z upper_least upper_most K && (leb l l_most && (leb 1 n && leb n l)))

unfoldable pub declared_worth : ℤ → ℤ → ℕ → ℕ → Worth
declared_worth k K l n = cond (fields_kept k K l n) (worth_of (declared_of k K l n)) (fault beyond)

-- an expression's worth, from those of the words and of the earlier clocks
unfoldable pub evaluate : List Node → List Node → Expr → Worth
evaluate ws cs (word i) = listed (get_elem? ws i)
evaluate ws cs (declared k K l n) = declared_worth k K l n
evaluate ws cs (negated x) = onward (evaluate ws cs x) λ a. worth_of (negated_of a.envelope)
evaluate ws cs (on x y) = joint on_within_limits (evaluate ws cs x) (evaluate ws cs y)
evaluate ws cs (clock i) = listed (get_elem? cs i)

abbrev pub word_node : Word → Node
word_node w = node_of (word_of w.prefix w.period)

abbrev pub word_nodes : List Word → List Node
word_nodes words = map word_node words

-- xs holds the node of each clock, worked out from those before it
pub record Worked (words : List Word) (clocks : List Clock) (xs : List Node) : Type 0 where
  pub each : (i : ℕ) (c : Clock) → get_elem? clocks i ≡ some c
      → (x : Node) × (get_elem? xs i ≡ some x) × (evaluate (word_nodes words) (take i xs) c.expr ≡ good x)
  pub many : length xs ≡ length clocks
