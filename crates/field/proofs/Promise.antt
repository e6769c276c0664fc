-- The promises on fields are kept. Assumes nothing.
use mathlib.Core.Path.{◌≡◌, sym, ap, ◌∙◌}
use mathlib.Core.List.{List}
use Prim.Native.Nat.{ℕ}
use Rattle.std.specs.Prelude.{Result}
use Rattle.field.specs.Spelling.{AllBytes}
use Rattle.field.specs.Field.{low_first, signed, read_of, answer_of}
use Rattle.field.specs.Promise.{FieldPromise, SignedPromise, OneAnswer}
use Rattle.field.specs.declared.Cursor.{Cursor}
use Rattle.reply.specs.declared.Refusal.{Refusal}
use Rattle.field.proofs.Read.{answered}
use Rattle.field.proofs.Fields.{same_field, field_short, field_whole, field_bytes, field_got}
use Rattle.field.proofs.SignedFields.{same_signed, signed_short, signed_whole, signed_bytes, signed_got}

pub field_promise : (w : ℕ) (s : List ℕ) (a : ℕ) → AllBytes s → FieldPromise w s a
field_promise w s a bytes =
    record {
      short = field_short w s a;
      there = λ h. (low_first w s a, field_whole w s a h);
      spells = field_bytes s bytes w a;
      read_back = field_got s w a;
      only = λ x y c d h k p q. same_field w h k p q;
    }

pub signed_promise : (s : List ℕ) (a : ℕ) → AllBytes s → SignedPromise s a
signed_promise s a bytes =
    record {
      short = signed_short s a;
      there = λ h. (signed (low_first 4 s a), signed_whole s a h);
      spells = signed_bytes s bytes a;
      read_back = signed_got s a;
      only = λ x y c d h k p q. same_signed x y h k p q;
    }

one : {A : Type 0} (r q : Result (A × Cursor) Refusal) → read_of r ≡ read_of q → r ≡ q
one r q e = sym (answered r) ∙ ap answer_of e ∙ answered q

pub one_answer : OneAnswer
one_answer = record { one_answer = one }
