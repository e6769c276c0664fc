-- A sheet with some clocks marked closed: it is spelled and read as the rest is, and closing one clock turns one byte. Assumes nothing.
use mathlib.Core.Path.{◌≡◌, refl, sym, ap, ap₂, ◌∙◌, subst}
use mathlib.Core.Bool.{Bool}
use mathlib.Core.List.{List, [], ◌++◌}
use Prim.Native.Nat.{ℕ, ◌+◌, ◌<◌}
use native.Mathlib.Omega.{arith}
use lib.ListN.{length, take, set, length-append}
use lib.Seq.{set-append_left}
use Rattle.field.specs.Read.{Read.got}
use Rattle.field.specs.Spelling.{bytes_of}
use Rattle.field.proofs.Spelling.{bytes_of_length}
use Rattle.expression.specs.Expression.{Clock, spell_word, spell_clock}
use Rattle.sheet.specs.Sheet.{Sheet, spell_link, rows, section, spell_sheet, Each, LinkRow, Legal}
use Rattle.sheet.specs.Reader.{read_sheet}
use Rattle.sheet.specs.SheetRead.{SheetRead}
use Rattle.sheet.proofs.Spelling.Sheets.{Opens, sheet_read}
use Rattle.sheet.specs.Locating.{clock_place}
use Rattle.register.specs.Inner.Marking.{mark_clocks, close_sheet, close_in}
use Rattle.register.specs.Promise.{only}
use Rattle.register.proofs.Marks.{marks_length, marks_rows, marks_worked, marks_spelled, set_more, only_spelled, take_spelled}

-- one clock closed: one byte is turned
pub one_byte : (v : Sheet) (i : ℕ) → i < length v.clocks → set (spell_sheet v) (clock_place v i) 1 ≡ spell_sheet (close_sheet (only i) v)
unfolding spell_sheet section clock_place
one_byte v i h =
    let W : List ℕ = section spell_word v.words in
    let N : List ℕ = bytes_of 2 (length v.clocks) in
    let R : List ℕ = rows spell_clock v.clocks in
    let L : List ℕ = section spell_link v.links in
    let m : ℕ = length (rows spell_clock (take i v.clocks)) in
    let e : 2 + m ≡ length N + m = omega (arith, bytes_of_length 2 (length v.clocks)) in
    let lt : length N + m < length (N ++ R) = omega (arith, take_spelled v.clocks i h, length-append N R) in
    ap (λ (n : ℕ). set (W ++ ((N ++ R) ++ L)) (length W + n) 1) e
    ∙ set_more W ((N ++ R) ++ L) (length N + m) 1
    ∙ ap (λ (r : List ℕ). W ++ r) (set-append_left (N ++ R) L (length N + m) 1 lt ∙ ap (λ (r : List ℕ). r ++ L) (set_more N R m 1))
    ∙ sym (ap₂ {C = List ℕ} (λ (n : ℕ) (r : List ℕ). W ++ ((bytes_of 2 n ++ r) ++ L)) (marks_length (only i) v.clocks) (only_spelled v.clocks i h))

module _ (t : ℕ → Bool) where
  pub same_length : (v : Sheet) → length (spell_sheet (close_sheet t v)) ≡ length (spell_sheet v)
  unfolding spell_sheet section
  same_length v =
      let W : List ℕ = section spell_word v.words in
      let L : List ℕ = section spell_link v.links in
      let whole : (n : ℕ) (r : List ℕ) → length (W ++ ((bytes_of 2 n ++ r) ++ L)) ≡ length W + (2 + length r + length L) =
      (λ n r. omega (arith, length-append W ((bytes_of 2 n ++ r) ++ L), length-append (bytes_of 2 n ++ r) L, length-append (bytes_of 2 n) r, bytes_of_length 2 n)) in
      omega (
        arith,
        whole (length v.clocks) (rows spell_clock v.clocks),
        whole (length (mark_clocks t v.clocks)) (rows spell_clock (mark_clocks t v.clocks)),
        marks_spelled t v.clocks,
      )

  close_legal : (v : Sheet) → Legal v → Legal (close_sheet t v)
  close_legal v l =
      let n : length (mark_clocks t v.clocks) ≡ length v.clocks = marks_length t v.clocks in
      record {
        words_within = l.words_within;
        clocks_within = omega (arith, l.clocks_within);
        links_within = l.links_within;
        words_legal = l.words_legal;
        clocks_legal = marks_rows t v.clocks l.clocks_legal;
        links_legal = subst (λ (m : ℕ). Each (λ xs l. LinkRow m l) [] v.links) (sym n) l.links_legal;
        bytes_within = omega (arith, l.bytes_within, same_length v);
      }

  -- the bytes of the sheet with those clocks marked open it, with the same table
  pub close_opens : (s : List ℕ) (o : SheetRead) (c : ℕ) → Opens s o c → Opens (spell_sheet (close_sheet t o.sheet)) (close_in t o) c
  close_opens s o c h =
      record {
        legal = close_legal o.sheet h.legal;
        worked = marks_worked t o.sheet.words o.sheet.clocks o.table h.worked;
        bytes = refl;
        end = h.end ∙ ap length h.bytes ∙ sym (same_length o.sheet);
      }

  -- where marking changes no clock, the sheet is as it was
  pub kept_same : (o : SheetRead) → mark_clocks t o.sheet.clocks ≡ o.sheet.clocks → close_in t o ≡ o
  kept_same o e = ap (λ (ks : List Clock). record { sheet = record { words = o.sheet.words; clocks = ks; links = o.sheet.links }; table = o.table }) e

-- bytes that open a sheet are read as that sheet
pub opens_read : (s : List ℕ) (o : SheetRead) (c : ℕ) → Opens s o c → read_sheet s ≡ got o c
opens_read s o c h =
    let n : length (spell_sheet o.sheet) ≡ c = ap length (sym h.bytes) ∙ sym h.end in
    ap read_sheet h.bytes ∙ sheet_read o.sheet o.table h.legal h.worked ∙ ap (λ (m : ℕ). got o m) n
