-- The links section as the code reads it: their ends in a table. Assumes nothing.
use mathlib.Core.Path.{◌≡◌, refl, ap, ◌∙◌}
use mathlib.Core.List.{List, [], ◌∷◌, map}
use Prim.Native.Nat.{ℕ}
use lib.ListN.{length, take}
use Rattle.field.specs.Read.{Read, Read.got}
use Rattle.std.specs.Prelude.{Result}
use Rattle.reply.specs.declared.Refusal.{Refusal}
use Rattle.field.specs.declared.Cursor.{Cursor}
use Rattle.sheet.specs.Sheet.{Link}
use Rattle.sheet.specs.Reader.{link_at}
use Rattle.reading.specs.Inner.Sections.{ends_of, LinkRows}
use Rattle.reading.proofs.Sections.RowTables.{left_table}

-- which links come before it doesn't matter
pub link_anywhere : (s : List ℕ) (m : ℕ) (xs : List Link) (a : ℕ) (r : Read Link) → link_at s m [] a ≡ r → link_at s m xs a ≡ r
unfolding link_at
link_anywhere s m xs a r e = e

-- a table keeps a link's ends as they are
same_ends : (ls : List Link) → map ends_of ls ≡ ls
same_ends [] = refl
same_ends (l ∷ ls) = ap {B = List Link} (λ ks. l ∷ ks) (same_ends ls)

pub links_left : (X : Read (List Link)) (r : Result (ℕ × Cursor) Refusal) (es : List Link) (ls : List Link) (c : ℕ) → X ≡ got ls c → LinkRows X r es → take (length ls) es ≡ ls
links_left X r es ls c e h = left_table ends_of X r es ls c e h ∙ same_ends ls
