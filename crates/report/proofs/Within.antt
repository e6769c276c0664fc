-- A text that was written lies within the buffer. Assumes nothing.
use mathlib.Core.Path.{◌≡◌, refl, sym, ap, ◌∙◌}
use mathlib.Core.Bool.{Bool, true, false, cond}
use mathlib.Core.List.{List}
use Prim.Native.Nat.{ℕ, ◌≤◌}
use native.Mathlib.Omega.{arith}
use borrow.Author.Tests.{leb-true}
use lib.Dec.{leb}
use lib.ListN.{length}
use lib.Seq.{sets, length-sets}
use Rattle.field.specs.Read.{Read, Read.got, Read.refused}
use Rattle.sheet.specs.Reader.{read_sheet}
use Rattle.sheet.specs.SheetRead.{SheetRead}
use Rattle.reply.specs.declared.Refusal.{Refusal}
use Rattle.std.specs.Prelude.{Result, Ok, Err}
use Rattle.reply.specs.Inner.Causes.{refusal}
use Rattle.report.specs.Listing.{sheet_text, listed_in, text_in, listed_of, text_after, ListsInto}

-- what is answered and left, by what was read
text_fits : (x : Read SheetRead) (room n : ℕ) → listed_in x room ≡ Ok n → n ≤ room
text_fits (got o c) room n e = go (leb (length (sheet_text o)) room) refl e
  where
    go : (b : Bool) → leb (length (sheet_text o)) room ≡ b → cond b (Ok (length (sheet_text o))) (Err (refusal 11 0)) ≡ Ok n → n ≤ room
    go true t e = let is : length (sheet_text o) ≡ n = cc in omega (arith, leb-true (length (sheet_text o)) room t)
    go false t e = absurd (cc)
text_fits (refused number place) room n e = absurd (cc)

-- the buffer keeps its length
same_length : (x : Read SheetRead) (text : List ℕ) → length (text_in x text) ≡ length text
same_length (got o c) text = go (leb (length (sheet_text o)) (length text))
  where
    go : (b : Bool) → length (cond b (sets text 0 (sheet_text o)) text) ≡ length text
    go true = length-sets text 0 (sheet_text o)
    go false = refl
same_length (refused number place) text = refl

pub within : (s before after : List ℕ) (r : Result ℕ Refusal) (n : ℕ) → ListsInto s before r after → r ≡ Ok n → n ≤ length after
unfolding listed_of text_after
within s before after r n p e =
    omega (arith, text_fits (read_sheet s) (length before) n (sym p.answer_is ∙ e), ap length p.text_is ∙ same_length (read_sheet s) before)
