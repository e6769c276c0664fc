-- The reader of a sheet is the reader of its format, so its refusals are those of the table, each with its place. Assumes nothing.
use mathlib.Core.Path.{◌≡◌, refl, sym, ◌∙◌, subst}
use mathlib.Core.Bool.{Bool, true, false, cond}
use mathlib.Core.Logic.{◌⊎◌, inl, inr, ◌≢◌}
use mathlib.Core.List.{List, [], ◌∷◌, ◌++◌, map}
use Prim.Native.Nat.{ℕ, zero, suc, ◌+◌, ◌≤◌}
use native.Mathlib.Omega.{arith}
use lib.Dec.{leb, eqb}
use lib.ListN.{length, length-append}
use borrow.Author.Tests.{leb-true, leb-false, le-leb, lt-leb, eqb-true, eqb-false, eq-eqb, ne_eqb}
use Rattle.reply.specs.Numbers.{missing, beyond, unknown, no_one, absent, trailing}
use Rattle.field.specs.Read.{Read, Read.got, Read.refused, bind}
use Rattle.field.specs.Format.{Judged.passes, Judged.fails, Format, Piece, Fault}
use Rattle.field.specs.Run.{settled, run}
use Rattle.field.proofs.Read.{refused_got, through, cond_left}
use Rattle.field.proofs.Format.{read_piece, read_fault, piece_read, fault_read, piece_within, fault_within, piece_stays, fault_stays, Cut, bind_same, bind_assoc, ranged_run}
use Rattle.field.proofs.Format as Format
use Rattle.envelope.specs.declared.Node.{Node}
use Rattle.envelope.specs.Word.{bits_most, ones_in}
use Rattle.expression.specs.Expression.{Word, depth_most}
use Rattle.expression.specs.Evaluate.{word_nodes}
use Rattle.expression.specs.Reader.{expr_at}
use Rattle.sheet.specs.Sheet.{Link, words_most, clocks_most, links_most, bytes_most}
use Rattle.sheet.specs.Reader.{rows_at, section_at, bits_at, word_at, clock_at, link_at, links_on, clocks_on, read_from, read_sheet}
use Rattle.sheet.specs.SheetRead.{ClockNode, node_of_clock, SheetRead}
use Rattle.sheet.specs.Format.{many, counted, bits, word_row, clock_row, link_row, sheet, Refused, Refused.too_long, Refused.faulty, Refused.bytes_after, Passed}

pub short_enough : (s : List ℕ) → length s ≤ bytes_most → read_sheet s ≡ read_from 0 s
unfolding read_sheet
short_enough s h = rw (le-leb (length s) bytes_most h)

-- what follows the links: nothing
abbrev pub ended : List ℕ → SheetRead → ℕ → Read SheetRead
ended s o c = cond (eqb c (length s)) (got o c) (refused trailing c)

module _ (s : List ℕ) where
  -- ---- each reader is that of a format
  pub many_run : {A : Type 0} (row : List A → Format A) (at : List A → ℕ → Read A) → ((xs : List A) (a : ℕ) → run (row xs) s a ≡ at xs a)
      → (n : ℕ) (xs : List A) (a : ℕ) → run (many row n xs) s a ≡ rows_at at n xs a
  unfolding run many rows_at
  many_run row at h zero xs a = refl
  many_run row at h (suc n) xs a = bind_same _ _ _ _ (h xs a) λ x c. many_run row at h n (xs ++ (x ∷ [])) c

  pub counted_run : {A : Type 0} (row : List A → Format A) (at : List A → ℕ → Read A) → ((xs : List A) (a : ℕ) → run (row xs) s a ≡ at xs a)
      → (most a : ℕ) → run (counted row most) s a ≡ section_at at most s a
  unfolding run counted section_at
  counted_run row at h most a = bind_same _ _ _ _ (ranged_run 2 0 (most + 1) beyond s a) λ n c. many_run row at h n [] c

  bits_run : (n a : ℕ) → run (bits n) s a ≡ bits_at n s a
  unfolding run bits bits_at
  bits_run zero a = refl
  bits_run (suc n) a = bind_same _ _ _ _ (ranged_run 1 0 2 unknown s a) λ b c. bind_same _ _ _ _ (bits_run n c) λ bs d. refl

  one_run : (t : Bool) (made : List ℕ → Word) (v : List ℕ) (c a : ℕ)
      → (bind (settled (cond t (passes v) (fails no_one)) c a) λ v d. got (made v) d) ≡ cond t (got (made v) c) (refused no_one a)
  one_run true made v c a = refl
  one_run false made v c a = refl

  pub word_run : (a : ℕ) → run word_row s a ≡ word_at s a
  unfolding run word_row word_at
  word_run a =
      bind_same _ _ _ _ (ranged_run 1 0 (bits_most + 1) beyond s a) λ p c₁.
      bind_same _ _ _ _ (ranged_run 1 1 (bits_most + 1) beyond s c₁) λ q c₂.
      bind_same _ _ _ _ (bits_run p c₂) λ u c₃.
      bind_assoc (run (bits q) s c₃) _ _ ∙ bind_same _ _ _ _ (bits_run q c₃) λ v c₄. one_run (leb 1 (ones_in v)) (λ v. record { prefix = u; period = v }) v c₄ c₃

  pub clock_run : (ws : List Node) (rows : List ClockNode) (a : ℕ) → run (clock_row ws rows) s a ≡ clock_at s ws rows a
  unfolding run clock_row clock_at expr_at
  clock_run ws rows a =
      bind_same _ _ _ _ (ranged_run 1 0 2 unknown s a) λ state c.
      bind_same _ (expr_at depth_most s ws (map node_of_clock rows) c) _ _ refl λ x d. refl

  link_run : (n : ℕ) (xs : List Link) (a : ℕ) → run (link_row n) s a ≡ link_at s n xs a
  unfolding run link_row link_at
  link_run n xs a = bind_same _ _ _ _ (ranged_run 2 0 n absent s a) λ p c. bind_same _ _ _ _ (ranged_run 2 0 n absent s c) λ q d. refl

  sheet_run : (a : ℕ) → read_from a s ≡ bind (run sheet s a) (ended s)
  unfolding run sheet read_from clocks_on links_on
  sheet_run a = sym (
      bind_assoc (run (counted (λ xs. word_row) words_most) s a) _ _
      ∙ bind_same _ _ _ _ (counted_run (λ xs. word_row) (λ xs a. word_at s a) (λ xs a. word_run a) words_most a) λ ws b.
      bind_assoc (run (counted (clock_row (word_nodes ws)) clocks_most) s b) _ _
      ∙ bind_same _ _ _ _ (counted_run (clock_row (word_nodes ws)) (clock_at s (word_nodes ws)) (clock_run (word_nodes ws)) clocks_most b) λ rows c.
      bind_assoc (run (counted (λ xs. link_row (length rows)) links_most) s c) _ _
      ∙ bind_same _ _ _ _ (counted_run (λ xs. link_row (length rows)) (link_at s (length rows)) (link_run (length rows)) links_most c) λ ls d. refl)

  -- ---- its refusals are those of the table
  pub refused_listed : (number place : ℕ) → read_sheet s ≡ refused number place → Refused s number place
  unfolding read_sheet
  refused_listed number place h = go (leb (length s) bytes_most) refl h
    where
      same : (n p : ℕ) → ◌≡◌ {A = Read SheetRead} (refused n p) (refused number place) → Refused s n p → Refused s number place
      same n p e h =
          let f : n ≡ number = cc in
          let g : p ≡ place = cc in
          rw (← f, ← g) h

      after : (o : SheetRead) (c : ℕ) → length s ≤ bytes_most → Piece s sheet 0 o c → (t : Bool) → eqb c (length s) ≡ t → cond t (got o c) (refused trailing c) ≡ refused number place → Refused s number place
      after o c l k true e f = refused_got (sym f)
      after o c l k false e f = same trailing c f (bytes_after o l k (omega (arith, eqb-false c (length s) e, piece_within s sheet 0 o c (omega arith) k)))

      by : (r : Read SheetRead) → run sheet s 0 ≡ r → length s ≤ bytes_most → bind r (ended s) ≡ refused number place → Refused s number place
      by (got o c) e l f = after o c l (read_piece s sheet 0 o c e) (eqb c (length s)) refl f
      by (refused n p) e l f = faulty l (read_fault s sheet 0 number place (e ∙ cc))

      go : (t : Bool) → leb (length s) bytes_most ≡ t → cond t (read_from 0 s) (refused beyond bytes_most) ≡ refused number place → Refused s number place
      go true e k = by (run sheet s 0) refl (leb-true (length s) bytes_most e) (sym (sheet_run 0) ∙ k)
      go false e k = same beyond bytes_most k (too_long (leb-false (length s) bytes_most e))

  pub listed_refused : {number place : ℕ} → Refused s number place → read_sheet s ≡ refused number place
  unfolding read_sheet
  listed_refused (too_long l) = rw (lt-leb (length s) bytes_most l)
  listed_refused (faulty {number = number} {place = place} l h) = short_enough s l ∙ sheet_run 0 ∙ rw (fault_read s sheet 0 number place h)
  listed_refused (bytes_after o {place = place} l h n) = short_enough s l ∙ sheet_run 0 ∙ rw (piece_read s sheet 0 o place h, ne_eqb place (length s) (omega arith))

  pub one_refusal : {number number' place place' : ℕ} → Refused s number place → Refused s number' place' → (number ≡ number') × (place ≡ place')
  one_refusal {number} {number'} {place} {place'} h k =
      let e : ◌≡◌ {A = Read SheetRead} (refused number place) (refused number' place') = sym (listed_refused h) ∙ listed_refused k in
      (cc, cc)

  -- ---- and what it accepts is such a piece, to the end
  accepted_right : (o : SheetRead) (c : ℕ) → read_sheet s ≡ got o c → (length s ≤ bytes_most) × Piece s sheet 0 o c × (c ≡ length s)
  unfolding read_sheet
  accepted_right o c h =
      let t = cond_left (leb (length s) bytes_most) (read_from 0 s) beyond bytes_most o c h in
      let r = through (run sheet s 0) (ended s) o c (sym (sheet_run 0) ∙ t.1) in
      let p = cond_left (eqb r.1 (length s)) (got r.0 r.1) trailing r.1 o c r.3 in
      let e : r.1 ≡ c = cc in
      (leb-true (length s) bytes_most t.0, read_piece s sheet 0 o c (r.2 ∙ p.1), sym e ∙ eqb-true r.1 (length s) p.0)

  right_accepted : (o : SheetRead) (c : ℕ) → length s ≤ bytes_most → Piece s sheet 0 o c → c ≡ length s → read_sheet s ≡ got o c
  right_accepted o c l h e = short_enough s l ∙ sheet_run 0 ∙ rw (piece_read s sheet 0 o c h, eq-eqb c (length s) e)

  pub accepted_passed : (o : SheetRead) (c : ℕ) → read_sheet s ≡ got o c → Passed s o × (c ≡ length s)
  accepted_passed o c h =
      let r = accepted_right o c h in
      (record { short_enough = r.0; right = subst (Piece s sheet 0 o) r.2 r.1 }, r.2)

  pub passed_accepted : (o : SheetRead) (c : ℕ) → Passed s o → c ≡ length s → read_sheet s ≡ got o c
  passed_accepted o c h e = right_accepted o c h.short_enough (rw e h.right) e

  -- a text is one sheet, or refused, and not both
  pub one_passed : (o x : SheetRead) → Passed s o → Passed s x → o ≡ x
  one_passed o x p q =
      let e : ◌≡◌ {A = Read SheetRead} (got o (length s)) (got x (length s)) = sym (passed_accepted o (length s) p refl) ∙ passed_accepted x (length s) q refl in
      cc

  pub passed_or_refused : ((o : SheetRead) × Passed s o) ⊎ ((number : ℕ) × (place : ℕ) × Refused s number place)
  passed_or_refused = go (read_sheet s) refl
    where
      go : (r : Read SheetRead) → read_sheet s ≡ r → ((o : SheetRead) × Passed s o) ⊎ ((number : ℕ) × (place : ℕ) × Refused s number place)
      go (got o c) h = inl (o, (accepted_passed o c h).0)
      go (refused number place) h = inr (number, place, refused_listed number place h)

  pub never_both : {number place : ℕ} (o : SheetRead) → Passed s o → Refused s number place → ⊥
  never_both o p h = refused_got (sym (listed_refused h) ∙ passed_accepted o (length s) p refl)

-- ---- the first fault from the left, within the text
pub refused_within : (s : List ℕ) {number place : ℕ} → Refused s number place → place ≤ length s
refused_within s (too_long l) = omega arith
refused_within s (faulty {number = number} {place = place} l h) = fault_within s sheet 0 number place (omega arith) h
refused_within s (bytes_after o l h n) = omega arith

-- whatever follows, unless bytes were missing
pub refused_stays : (s more : List ℕ) {number place : ℕ} → length (s ++ more) ≤ bytes_most → Refused s number place → number ≢ missing → Refused (s ++ more) number place
refused_stays s more m (too_long l) n = absurd (omega (arith, length-append s more))
refused_stays s more m (faulty {number = number} {place = place} l h) n = faulty m (fault_stays s more sheet 0 number place n h)
refused_stays s more m (bytes_after o {place = place} l h k) n = bytes_after o m (piece_stays s more sheet 0 o place h) (omega (arith, length-append s more))

-- a text that is accepted, cut short: 1, at the field that is cut
pub cut_listed : (s : List ℕ) (x : ℕ) (rest : List ℕ) (o : SheetRead) (c : ℕ) → read_sheet (s ++ (x ∷ rest)) ≡ got o c
    → (place : ℕ) × Fault s sheet 0 missing place × (read_sheet s ≡ refused missing place)
cut_listed s x rest o c h =
    let k = accepted_right (s ++ (x ∷ rest)) o c h in
    let short : length s ≤ bytes_most = omega (arith, k.0, length-append s (x ∷ rest)) in
    go short k.2 (Format.cut s (x ∷ rest) sheet 0 o c k.1)
  where
    go : length s ≤ bytes_most → c ≡ length (s ++ (x ∷ rest)) → Piece s sheet 0 o c ⊎ Cut s (x ∷ rest) sheet 0
        → (place : ℕ) × Fault s sheet 0 missing place × (read_sheet s ≡ refused missing place)
    go l e (inl k) = absurd (omega (arith, length-append s (x ∷ rest), piece_within s sheet 0 o c (omega arith) k))
    go l e (inr k) = (k.0, k.1, listed_refused s (faulty l k.1))
