-- Words, expressions and clocks as values, and how they are spelled in bytes.
use Rattle.std.specs.Prelude.{List, ◌∷◌, ◌++◌, ℕ, suc, max, ℤ, length}
use Rattle.field.specs.Spelling.{bytes_of, twos}
use Rattle.expression.specs.declared.Tag.{Tag}

-- "u(v): prefix u, then v for ever"
pub record Word : Type 0 where
  pub prefix : List ℕ
  pub period : List ℕ

-- "1 word; 2 declared; 3 not; 4 on; 5 earlier clock"
abbrev pub tag_number : Tag → ℕ
tag_number Tag.Word = 1
tag_number Tag.Declared = 2
tag_number Tag.Not = 3
tag_number Tag.On = 4
tag_number Tag.Clock = 5

-- the largest of these numbers
abbrev pub tag_most : ℕ
tag_most = 5

-- an expression, one way for each tag
pub data Expr : Type 0 where
  word : ℕ → Expr
  declared : ℤ → ℤ → ℕ → ℕ → Expr
  negated : Expr → Expr
  on : Expr → Expr → Expr
  clock : ℕ → Expr

-- "state u8 (0 open, 1 closed), then one expression"
pub record Clock : Type 0 where
  pub state : ℕ
  pub expr : Expr

-- "Expressions nest inside one another .. the outermost node has depth 1"
unfoldable pub depth : Expr → ℕ
depth (Expr.word i) = 1
depth (Expr.declared k K l n) = 1
depth (Expr.negated x) = suc (depth x)
depth (Expr.on x y) = suc (max (depth x) (depth y))
depth (Expr.clock i) = 1

-- "to a depth of 12"
abbrev pub depth_most : ℕ
depth_most = 12

-- "An expression is a tag u8 and its parts"
unfoldable pub spell : Expr → List ℕ
spell (Expr.word i) = tag_number Tag.Word ∷ bytes_of 2 i
spell (Expr.declared k K l n) = tag_number Tag.Declared ∷ (bytes_of 4 (twos k) ++ (bytes_of 4 (twos K) ++ (bytes_of 4 l ++ bytes_of 4 n)))
spell (Expr.negated x) = tag_number Tag.Not ∷ spell x
spell (Expr.on x y) = tag_number Tag.On ∷ (spell x ++ spell y)
spell (Expr.clock i) = tag_number Tag.Clock ∷ bytes_of 2 i

-- "prefix length u8, period length u8, prefix bits, period bits, one byte 0 or 1 each"
abbrev pub spell_word : Word → List ℕ
spell_word w = length w.prefix ∷ (length w.period ∷ (w.prefix ++ w.period))

abbrev pub spell_clock : Clock → List ℕ
spell_clock c = c.state ∷ spell c.expr
