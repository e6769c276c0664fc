-- A word's node, as the code reads it. Assumes nothing.
use mathlib.Core.Path.{◌≡◌, refl}
use mathlib.Core.Bool.{Bool, true, false, cond}
use mathlib.Core.List.{List}
use Prim.Native.Nat.{ℕ}
use lib.Dec.{leb}
use Rattle.reply.specs.Numbers.{beyond, no_one}
use Rattle.field.specs.Read.{Read, Read.got, Read.refused, bind, mapped}
use Rattle.field.specs.Field.{field_in}
use Rattle.envelope.specs.declared.Node.{Node}
use Rattle.envelope.specs.Word.{ones_in, word_of}
use Rattle.envelope.specs.Made.{node_of}
use Rattle.expression.specs.Expression.{Word}
use Rattle.expression.specs.Evaluate.{word_node}
use Rattle.sheet.specs.Reader.{bits_at, word_at}
use Rattle.word.specs.Inner.Bits.{word_bits}

-- a word's node, by its lengths and its bits
pub word_is : (s : List ℕ) (a : ℕ) → mapped word_node (word_at s a) ≡ bind (field_in 1 0 65 beyond s a) (λ p c. bind (field_in 1 1 65 beyond s c) (λ q d. word_bits p q s d))
unfolding word_at word_bits
word_is s a = lengths (field_in 1 0 65 beyond s a)
  where
    made : (u : List ℕ) (c : ℕ) (v : List ℕ) (d : ℕ) → Read Word
    made u c v d = cond (leb 1 (ones_in v)) (got (record { prefix = u; period = v }) d) (refused no_one c)

    node : (u : List ℕ) (c : ℕ) (v : List ℕ) (d : ℕ) → Read Node
    node u c v d = cond (leb 1 (ones_in v)) (got (node_of (word_of u v)) d) (refused no_one c)

    tested : (u v : List ℕ) (c d : ℕ) (t : Bool) → mapped word_node (cond t (got (record { prefix = u; period = v }) d) (refused no_one c)) ≡ cond t (got (node_of (word_of u v)) d) (refused no_one c)
    tested u v c d true = refl
    tested u v c d false = refl

    period : (u : List ℕ) (c : ℕ) (r : Read (List ℕ)) → mapped word_node (bind r (made u c)) ≡ bind r (node u c)
    period u c (got v d) = tested u v c d (leb 1 (ones_in v))
    period u c (refused number place) = refl

    prefix : (q : ℕ) (r : Read (List ℕ)) → mapped word_node (bind r (λ u c. bind (bits_at q s c) (made u c))) ≡ bind r (λ u c. bind (bits_at q s c) (node u c))
    prefix q (got u c) = period u c (bits_at q s c)
    prefix q (refused number place) = refl

    length_two : (p : ℕ) (r : Read ℕ) → mapped word_node (bind r (λ q d. bind (bits_at p s d) (λ u c. bind (bits_at q s c) (made u c)))) ≡ bind r (λ q d. word_bits p q s d)
    length_two p (got q d) = prefix q (bits_at p s d)
    length_two p (refused number place) = refl

    lengths : (r : Read ℕ) → mapped word_node (bind r (λ p b. bind (field_in 1 1 65 beyond s b) (λ q d. bind (bits_at p s d) (λ u c. bind (bits_at q s c) (made u c))))) ≡ bind r (λ p c. bind (field_in 1 1 65 beyond s c) (λ q d. word_bits p q s d))
    lengths (got p b) = length_two p (field_in 1 1 65 beyond s b)
    lengths (refused number place) = refl
