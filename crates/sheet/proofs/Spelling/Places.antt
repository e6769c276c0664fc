-- Where a clock's bytes stand in the sheet: its state, then its expression. Assumes nothing.
use mathlib.Core.Path.{◌≡◌, refl, sym, ap, ◌∙◌, subst}
use mathlib.Core.List.{List, [], ◌∷◌, map}
use mathlib.Core.Option.{some}
use Prim.Native.Nat.{ℕ, zero, suc, ◌+◌, ◌≤◌}
use native.Mathlib.Omega.{arith}
use lib.ListN.{length, take, get_or, get_elem?, length-append, length-map, length-take}
use Rattle.field.specs.Read.{Read.got}
use Rattle.field.specs.Spelling.{bytes_of, Bytes, Bytes.done, Bytes.byte}
use Rattle.field.specs.Field.{low_first}
use Rattle.field.specs.Format.{Piece}
use Rattle.field.proofs.Format.{read_piece}
use Rattle.field.proofs.Spelling.{join, end, split, itself, bytes_of_length}
use Rattle.envelope.specs.declared.Node.{Node}
use Rattle.expression.specs.Expression.{Clock, spell, spell_word, spell_clock}
use Rattle.expression.specs.Evaluate.{word_nodes}
use Rattle.expression.specs.Spelled.{indexes}
use Rattle.expression.proofs.Lookup.{none_some}
use Rattle.sheet.specs.Sheet.{Sheet, words_most, rows, section, spell_sheet, Each}
use Rattle.sheet.specs.Reader.{rows_at, word_at, clock_at}
use Rattle.sheet.specs.SheetRead.{ClockNode, clock_of, SheetRead}
use Rattle.sheet.specs.Format.{many, word_row, counted, clock_row, up_to, ClockAt}
use Rattle.sheet.specs.Locating.{clock_place}
use Rattle.sheet.proofs.Refusing.Format.{many_run, counted_run, word_run, clock_run}
use Rattle.sheet.proofs.Spelling.Rows.{each_take, rows_read}
use Rattle.sheet.proofs.Spelling.Clocks.{ClockMade, clock_read}
use Rattle.sheet.proofs.Spelling.Worked.{map_take, together, together_clocks, worked_rows}
use Rattle.sheet.proofs.Spelling.Sheets.{Opens, spell_row, rows_map, few_words, words_read}

-- row i, at b, of rows that stand at a
module _ {A : Type 0} (f : A → List ℕ) {s : List ℕ} where
  row_bytes : (zs : List A) (i : ℕ) (z : A) {a d : ℕ} (b : ℕ) → get_elem? zs i ≡ some z → b ≡ a + length (rows f (take i zs)) → Bytes s a (rows f zs) d
      → Bytes s b (f z) (b + length (f z))
  unfolding rows
  row_bytes [] i z b h e p = none_some h
  row_bytes (y ∷ zs) zero z {a} {d} b h e p =
      let q = split (f y) (rows f zs) p in
      let w : y ≡ z = cc in
      let g : a ≡ b = omega arith in
      let k : q.0 ≡ b + length (f y) = omega (arith, end q.1) in
      subst (λ (x : A). Bytes s b (f x) (b + length (f x))) w (subst (λ (c : ℕ). Bytes s b (f y) c) k (subst (λ (c : ℕ). Bytes s c (f y) q.0) g q.1))
  row_bytes (y ∷ zs) (suc i) z {a} {d} b h e p =
      let q = split (f y) (rows f zs) p in
      row_bytes zs i z b h (omega (arith, end q.1, length-append (f y) (rows f (take i zs)))) q.2

-- a clock's bytes stand at its place
pub clock_bytes : (v : Sheet) (i : ℕ) (k : Clock) → get_elem? v.clocks i ≡ some k → Bytes (spell_sheet v) (clock_place v i) (spell_clock k) (clock_place v i + length (spell_clock k))
unfolding spell_sheet section clock_place
clock_bytes v i k h =
    let n : ℕ = length v.clocks in
    let b₁ = split (section spell_word v.words) _ (itself (spell_sheet v) []) in
    let b₂ = split (section spell_clock v.clocks) _ b₁.2 in
    let b₃ = split (bytes_of 2 n) (rows spell_clock v.clocks) b₂.1 in
    row_bytes spell_clock v.clocks i k (clock_place v i) h (omega (arith, end b₁.1, end b₃.1, bytes_of_length 2 n)) b₃.2

-- a clock that stands at a place: its state, and its expression behind it
module _ {s : List ℕ} {a c : ℕ} (k : Clock) where
  pub state_byte : Bytes s a (spell_clock k) c → get_or s a 0 ≡ k.state
  state_byte (byte p q r) = q

  pub expr_bytes : Bytes s a (spell_clock k) c → Bytes s (suc a) (spell k.expr) c
  expr_bytes (byte p q r) = r

-- the next clock begins where this one ends
pub next_place : (v : Sheet) (i : ℕ) (k : Clock) → get_elem? v.clocks i ≡ some k → clock_place v i + length (spell_clock k) ≡ clock_place v (suc i)
unfolding clock_place rows
next_place v i k h = omega (arith, go v.clocks i h)
  where
    go : (ks : List Clock) (i : ℕ) → get_elem? ks i ≡ some k → length (rows spell_clock (take i ks)) + length (spell_clock k) ≡ length (rows spell_clock (take (suc i) ks))
    go [] i h = none_some h
    go (x ∷ ks) zero h =
        let e : x ≡ k = cc in
        omega (arith, ap (λ (y : Clock). length (spell_clock y)) e, length-append (spell_clock x) [])
    go (x ∷ ks) (suc i) h = omega (arith, go ks i h, length-append (spell_clock x) (rows spell_clock (take i ks)), length-append (spell_clock x) (rows spell_clock (take (suc i) ks)))

-- ---- where a clock begins, by what stands before it
-- the first rows of rows that stand at a
rows_begin : {A : Type 0} (f : A → List ℕ) {s : List ℕ} (zs : List A) (i : ℕ) {a d : ℕ} → Bytes s a (rows f zs) d → (b : ℕ) × Bytes s a (rows f (take i zs)) b
unfolding rows
rows_begin f {s} zs zero {a} p =
    let h : a ≤ length s = omega (arith, end p) in
    (a, done h)
rows_begin f [] (suc i) {a} {d} p = (d, p)
rows_begin f (z ∷ zs) (suc i) p =
    let q = split (f z) (rows f zs) p in
    let r = rows_begin f zs i q.2 in
    (r.0, join q.1 r.1)

module _ (s : List ℕ) (o : SheetRead) (c : ℕ) (opens : Opens s o c) where
  abbrev ws : List Node
  ws = word_nodes o.sheet.words

  abbrev zs : List ClockNode
  zs = together o.sheet.clocks o.table

  same_clocks : map clock_of zs ≡ o.sheet.clocks
  same_clocks = together_clocks o.sheet.clocks o.table opens.worked.many

  -- the first i clocks, from b on
  clocks_begin : (i : ℕ) → i ≤ length o.sheet.clocks → (b d : ℕ) → Bytes s b (rows spell_row zs) d
      → Piece s (many (clock_row ws) i []) b (take i zs) (b + length (rows spell_clock (take i o.sheet.clocks)))
  clocks_begin i h b d p =
      let n : length zs ≡ length o.sheet.clocks = sym (length-map zs clock_of) ∙ ap length same_clocks in
      let m : length (take i zs) ≡ i = omega (arith, length-take i zs) in
      let few : length o.sheet.clocks ≤ indexes = omega (arith, opens.legal.clocks_within) in
      let r = rows_begin spell_row zs i p in
      let e : r.0 ≡ b + length (rows spell_clock (take i o.sheet.clocks)) =
      (end r.1).0
      ∙ ap (λ (t : List ℕ). b + length t) (sym (rows_map spell_clock clock_of (take i zs)) ∙ ap (rows spell_clock) (map_take clock_of zs i ∙ ap (take i) same_clocks)) in
      let each : Each (ClockMade ws) [] (take i zs) =
      each_take (ClockMade ws) [] zs i (worked_rows o.sheet.words o.sheet.clocks o.table opens.worked opens.legal.clocks_legal) in
      let g : rows_at (clock_at s ws) (length (take i zs)) [] b ≡ got (take i zs) r.0 =
      rows_read s (clock_at s ws) spell_row (ClockMade ws) (λ xs a k c l. clock_read s ws xs a c (few_words s o.sheet.words opens.legal.words_within opens.legal.words_legal) l k) (take i zs) [] b r.0 (omega arith) each r.1 in
      read_piece s (many (clock_row ws) i []) b (take i zs) _ (many_run s (clock_row ws) (clock_at s ws) (clock_run s ws) i [] b ∙ subst (λ (k : ℕ). rows_at (clock_at s ws) k [] b ≡ got (take i zs) r.0) m g ∙ ap (λ (k : ℕ). got (take i zs) k) e)

  pub clock_at_lem : (i : ℕ) → i ≤ length o.sheet.clocks → ClockAt s i (clock_place o.sheet i)
  unfolding spell_sheet section clock_place up_to
  clock_at_lem i h =
      let n : ℕ = length o.sheet.clocks in
      let b₁ = split (section spell_word o.sheet.words) _ (subst (λ (t : List ℕ). Bytes s 0 t (length s)) opens.bytes (itself s [])) in
      let b₂ = split (section spell_clock o.sheet.clocks) _ b₁.2 in
      let b₃ = split (bytes_of 2 n) (rows spell_clock o.sheet.clocks) b₂.1 in
      let p = subst (λ (t : List ℕ). Bytes s b₃.0 t b₂.0) (ap (rows spell_clock) (sym same_clocks) ∙ rows_map spell_clock clock_of zs) b₃.2 in
      let w : Piece s (counted (λ xs. word_row) words_most) 0 o.sheet.words b₁.0 =
      read_piece s (counted (λ xs. word_row) words_most) 0 o.sheet.words b₁.0
      (counted_run s (λ xs. word_row) (λ xs a. word_at s a) (λ xs a. word_run s a) words_most 0 ∙ words_read s o.sheet.words opens.legal.words_within opens.legal.words_legal 0 b₁.0 b₁.1) in
      let e : b₁.0 + 2 ≡ b₃.0 = omega (arith, end b₃.1, bytes_of_length 2 n) in
      let k : b₁.0 + 2 ≤ length s = omega (arith, end b₃.1, bytes_of_length 2 n) in
      let z : b₃.0 + length (rows spell_clock (take i o.sheet.clocks)) ≡ clock_place o.sheet i = omega (arith, end b₁.1, end b₃.1, bytes_of_length 2 n) in
      (take i zs, (o.sheet.words, b₁.0, w, (low_first 2 s b₁.0, b₃.0, (k, refl, e), subst (λ (q : ℕ). Piece s (many (clock_row ws) i []) b₃.0 (take i zs) q) z (clocks_begin i h b₃.0 b₂.0 p))))
