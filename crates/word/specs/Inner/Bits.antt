-- What the code reads of a word's bits.
use Rattle.std.specs.Prelude.{cond, List, ℕ, leb}
use Rattle.reply.specs.Numbers.{no_one}
use Rattle.field.specs.Read.{Read, Read.got, Read.refused, bind}
use Rattle.envelope.specs.declared.Node.{Node}
use Rattle.envelope.specs.Word.{ones_in, word_of}
use Rattle.envelope.specs.Made.{node_of}
use Rattle.sheet.specs.Reader.{bits_at}

-- a word's bits, prefix and period, with the node that they make
unfoldable pub word_bits : ℕ → ℕ → List ℕ → ℕ → Read Node
word_bits p q s a =
    bind (bits_at p s a) λ u c. bind (bits_at q s c) λ v d. cond (leb 1 (ones_in v)) (got (node_of (word_of u v)) d) (refused no_one c)
