-- What the result slices hold at each link, and at the end of a listing. Assumes nothing.
use mathlib.Core.Path.{◌≡◌, refl, ap, ◌∙◌}
use mathlib.Core.List.{List, [], ◌∷◌, ◌++◌, map}
use mathlib.Core.Option.{some}
use Prim.Native.Nat.{ℕ, zero, suc, ◌+◌, ◌*◌, ◌≤◌}
use native.Mathlib.Nat.{zero-add}
use native.Mathlib.Omega.{arith}
use lib.IntN.{ℤ, pos}
use lib.ListN.{length, drop, get_or, get_elem?}
use lib.Seq.{sets, sets-eq}
use borrow.Author.Tests.{le-leb}
use Rattle.link.specs.declared.Verdict.{Verdict}
use Rattle.link.specs.declared.Verdict.TheVariants.{Accepted, Rates, Early}
use Rattle.link.specs.Link.{verdict_number, size_in}
use Rattle.sheet.specs.Sheet.{Link}
use Rattle.sheet.specs.SheetRead.{SheetRead}
use Rattle.sizing.specs.Rooms.{row_of, verdict_in}
use Rattle.sizing.specs.WorkOut.{link_numbers, flatten}
use Rattle.sheet.specs.Format.{Passed}
use Rattle.sheet.proofs.Refusing.Format.{passed_accepted}
use Rattle.std.specs.Prelude.{Result, Ok}
use Rattle.reply.specs.declared.Refusal.{Refusal}
use Rattle.report.specs.Listing.{sheet_text, listed_of, text_after, ListsInto}

-- ---- link m: its verdict's number and its size
row_at : (o : SheetRead) (ls : List Link) (m : ℕ) (l : Link) (tail : List ℤ) → get_elem? ls m ≡ some l
    → (get_or (flatten link_numbers (map (row_of o) ls) ++ tail) (3 * m) (pos 0) ≡ pos (verdict_number (verdict_in o.table l)))
    × (get_or (flatten link_numbers (map (row_of o) ls) ++ tail) (3 * m + 1) (pos 0) ≡ pos (size_in (verdict_in o.table l)))
unfolding flatten
row_at o [] m l tail e = absurd (cc)
row_at o (k ∷ ls) zero l tail e = let is : k ≡ l = cc in
    rw is (refl, refl)
row_at o (k ∷ ls) (suc m) l tail e =
    let before = row_at o ls m l tail e in
    let verdict : 3 * suc m ≡ suc (suc (suc (3 * m))) = omega arith in
    let size : 3 * suc m + 1 ≡ suc (suc (suc (3 * m + 1))) = omega arith in
    (rw verdict before.0, rw size before.1)

-- a verdict by its number and its size
accepted : (v : Verdict) (size : ℕ) → pos (verdict_number v) ≡ pos 0 → pos (size_in v) ≡ pos size → v ≡ Accepted size
accepted (Accepted k) size p q = let is : k ≡ size = cc in
    ap Accepted is
accepted Rates size p q = absurd (cc)
accepted Early size p q = absurd (cc)

pub accepted_at : (o : SheetRead) (tail ls : List ℤ) → ls ≡ flatten link_numbers (map (row_of o) o.sheet.links) ++ tail → (m : ℕ) (l : Link) → get_elem? o.sheet.links m ≡ some l
    → get_or ls (3 * m) (pos 0) ≡ pos 0 → (size : ℕ) → get_or ls (3 * m + 1) (pos 0) ≡ pos size → verdict_in o.table l ≡ Accepted size
accepted_at o tail ls is m l e zero_at size size_at =
    let row = row_at o o.sheet.links m l tail e in
    accepted (verdict_in o.table l) size
    (cc (row.0, zero_at, ap (λ (x : List ℤ). get_or x (3 * m) (pos 0)) is))
    (cc (row.1, size_at, ap (λ (x : List ℤ). get_or x (3 * m + 1) (pos 0)) is))

-- ---- a listing that fits
pub listing_fits : (s : List ℕ) (o : SheetRead) → Passed s o → (t u : List ℕ) (r : Result ℕ Refusal) → ListsInto s t r u → length (sheet_text o) ≤ length t
    → (r ≡ Ok (length (sheet_text o))) × (u ≡ sheet_text o ++ drop (length (sheet_text o)) t)
unfolding listed_of text_after
listing_fits s o passed t u r h fits =
    let read = passed_accepted s o (length s) passed refl in (
      h.answer_is ∙ rw (read, le-leb (length (sheet_text o)) (length t) fits),
      h.text_is ∙ rw (read, le-leb (length (sheet_text o)) (length t) fits) (put (sheet_text o) fits),
    )
  where
    put : (x : List ℕ) → length x ≤ length t → sets t 0 x ≡ x ++ drop (length x) t
    put x k = sets-eq x t 0 (omega arith) ∙ rw zero-add
