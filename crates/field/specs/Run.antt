-- The reader of a format: what stands at a place, or the first fault.
use Rattle.std.specs.Prelude.{List, ℕ}
use Rattle.field.specs.Read.{Read, Read.got, Read.refused, bind}
use Rattle.field.specs.Field.{field_at}
use Rattle.field.specs.Format.{Judged, Judged.passes, Judged.fails, Format, Format.known, Format.field, Format.then, Format.tested}

-- what follows a test: the piece, or its number at the place where the piece begins
abbrev pub settled : {A : Type 0} → Judged A → ℕ → ℕ → Read A
settled (passes x) c a = got x c
settled (fails number) c a = refused number a

unfoldable pub run : {A : Type 0} → Format A → List ℕ → ℕ → Read A
run (known x) s a = got x a
run (field w) s a = field_at w s a
run (then t next) s a = bind (run t s a) λ x c. run (next x) s c
run (tested t test) s a = bind (run t s a) λ x c. settled (test x) c a
