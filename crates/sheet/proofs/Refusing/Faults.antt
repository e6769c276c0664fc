-- Which refusals are given, and where. Assumes nothing.
use mathlib.Core.Path.{◌≡◌, sym, ap, ap₂, ◌∙◌, subst}
use mathlib.Core.Logic.{◌≢◌}
use mathlib.Core.List.{List, [], ◌∷◌, ◌++◌, map}
use Prim.Native.Nat.{ℕ, suc, ◌+◌, ◌-◌, ◌≤◌}
use native.Mathlib.Omega.{arith}
use lib.ListN.{length, length-map, length-append}
use borrow.Author.Tests.{ne_eqb}
use Rattle.reply.specs.Numbers.{missing, trailing}
use Rattle.field.specs.Read.{Read, Read.refused}
use Rattle.field.specs.Spelling.{bytes_of, Bytes}
use Rattle.field.specs.Format.{Fault}
use Rattle.field.proofs.Spelling.{end, split, itself, bytes_of_length}
use Rattle.envelope.specs.declared.Node.{Node}
use Rattle.expression.specs.Expression.{Word, Clock, spell_word, spell_clock}
use Rattle.expression.specs.Evaluate.{Worth.fault, evaluate, word_node, word_nodes, Worked}
use Rattle.expression.specs.Spelled.{indexes, InRange}
use Rattle.expression.specs.Blame.{blame}
use Rattle.sheet.specs.Sheet.{Sheet, words_most, clocks_most, bytes_most, rows, section, spell_sheet, Every, Each, WordRow, ClockRow, Legal}
use Rattle.sheet.specs.Reader.{section_at, clock_at, links_on, clocks_on, read_from, read_sheet}
use Rattle.sheet.specs.SheetRead.{ClockNode, clock_of, node_of_clock, SheetRead}
use Rattle.sheet.specs.Format.{sheet}
use Rattle.sheet.specs.Promise.{UpTo, expr_place}
use Rattle.sheet.proofs.Spelling.Rows.{section_stops}
use Rattle.sheet.proofs.Spelling.Clocks.{ClockMade, clock_read, clock_refused}
use Rattle.sheet.proofs.Spelling.Worked.{together, together_clocks, together_nodes, worked_rows}
use Rattle.sheet.proofs.Spelling.Sheets.{rows_map, spell_row, few_words, words_read, to_end, sheet_read}
use Rattle.sheet.proofs.Refusing.Format.{short_enough, refused_listed, listed_refused, refused_within, refused_stays, cut_listed}

module _ (s : List ℕ) where
  pub within : (number place : ℕ) → read_sheet s ≡ refused number place → place ≤ length s
  within number place h = refused_within s (refused_listed s number place h)

  pub first_fault : (rest : List ℕ) (number place : ℕ) → read_sheet s ≡ refused number place → number ≢ missing → length (s ++ rest) ≤ bytes_most
      → read_sheet (s ++ rest) ≡ refused number place
  first_fault rest number place h k l = listed_refused (s ++ rest) (refused_stays s rest l (refused_listed s number place h) k)

  pub bytes_after : (v : Sheet) (xs : List Node) (x : ℕ) (rest : List ℕ) → Legal v → Worked v.words v.clocks xs → s ≡ spell_sheet v ++ (x ∷ rest) → length s ≤ bytes_most
      → read_sheet s ≡ refused trailing (length (spell_sheet v))
  bytes_after v xs x rest l w e m =
      let all : Bytes s 0 (spell_sheet v ++ (x ∷ rest)) (length s) = subst (λ (t : List ℕ). Bytes s 0 t (length s)) e (itself s []) in
      let b = split (spell_sheet v) (x ∷ rest) all in
      let k : b.0 ≢ length s = omega (arith, (end b.1).0, ap length e, length-append (spell_sheet v) (x ∷ rest)) in
      let c : b.0 ≡ length (spell_sheet v) = omega (arith, (end b.1).0) in
      short_enough s m ∙ to_end s v xs 0 b.0 l w b.1 ∙ rw (ne_eqb b.0 (length s) k) (ap {B = Read SheetRead} (λ (p : ℕ). refused trailing p) c)

  -- ---- a clock that the rules refuse
  rows_to_fault : (words : List Word) (zs : List ClockNode) (k : Clock) (number m a b d e : ℕ) → length words ≤ words_most → Every WordRow words
      → length zs + suc m ≤ clocks_most → Each (ClockMade (word_nodes words)) [] zs → ClockRow k
      → InRange (length words) (length zs) k.expr → evaluate (word_nodes words) (map node_of_clock zs) k.expr ≡ fault number
      → Bytes s 0 (section spell_word words) a → Bytes s a (bytes_of 2 (length zs + suc m)) b → Bytes s b (rows spell_row zs) d → Bytes s d (spell_clock k) e
      → read_from 0 s ≡ refused number (suc d + blame (word_nodes words) (map node_of_clock zs) k.expr)
  unfolding read_from clocks_on links_on
  rows_to_fault words zs k number m a b d e hw lw hz lz hk i v bw bn bz bk =
      let ws : List Node = word_nodes words in
      let few : length ws ≤ indexes = few_words s words hw lw in
      let there : InRange (length ws) (length zs) k.expr = rw (length-map words word_node) i in
      let f : section_at (clock_at s ws) clocks_most s a ≡ refused number (suc d + blame ws (map node_of_clock zs) k.expr) =
      section_stops s (clock_at s ws) spell_row (ClockMade ws) (λ xs a r c l. clock_read s ws xs a c few l r) clocks_most a zs m b d number _ (omega arith) hz lz bn bz
      (clock_refused s ws zs d e few (omega arith) k number hk there v bk) in
      rw (words_read s words hw lw 0 a bw, f)

  pub by_rules : (words : List Word) (clocks : List Clock) (xs : List Node) (k : Clock) (number : ℕ) → UpTo s words clocks xs k → InRange (length words) (length clocks) k.expr
      → evaluate (word_nodes words) xs k.expr ≡ fault number → read_sheet s ≡ refused number (expr_place words clocks + blame (word_nodes words) xs k.expr)
  by_rules words clocks xs k number u i v =
      let ws : List Node = word_nodes words in
      let zs : List ClockNode = together clocks xs in
      let p : map clock_of zs ≡ clocks = together_clocks clocks xs u.worked.many in
      let q : map node_of_clock zs ≡ xs = together_nodes clocks xs u.worked.many in
      let n : length clocks ≡ length zs = ap length (sym p) ∙ length-map zs clock_of in
      let m : ℕ = u.count - suc (length clocks) in
      let count_is : u.count ≡ length zs + suc m = omega (arith, u.more) in
      let b₁ = split (section spell_word words) _ (subst (λ (t : List ℕ). Bytes s 0 t (length s)) u.text (itself s [])) in
      let b₂ = split (bytes_of 2 u.count) _ b₁.2 in
      let b₃ = split (rows spell_clock clocks) _ b₂.2 in
      let b₄ = split (spell_clock k) u.rest b₃.2 in
      let bn = subst (λ (t : ℕ). Bytes s b₁.0 (bytes_of 2 t) b₂.0) count_is b₂.1 in
      let bz = subst (λ (t : List ℕ). Bytes s b₂.0 t b₃.0) (ap (rows spell_clock) (sym p) ∙ rows_map spell_clock clock_of zs) b₃.1 in
      let place : suc b₃.0 ≡ expr_place words clocks = omega (arith, (end b₁.1).0, (end b₂.1).0, (end b₃.1).0, bytes_of_length 2 u.count) in
      short_enough s u.short_enough
      ∙ rows_to_fault words zs k number m b₁.0 b₂.0 b₃.0 b₄.0 u.words_within u.words_legal (omega (arith, u.count_most)) (worked_rows words clocks xs u.worked u.clocks_legal)
      u.clock_legal (rw n at i) (ap (λ (ys : List Node). evaluate ws ys k.expr) q ∙ v) b₁.1 bn bz b₄.1
      ∙ ap₂ {C = Read SheetRead} (λ (a : ℕ) (ys : List Node). refused number (a + blame ws ys k.expr)) place q

-- ---- a sheet cut short
pub cut_short : (s : List ℕ) (v : Sheet) (xs : List Node) (x : ℕ) (rest : List ℕ) → Legal v → Worked v.words v.clocks xs → s ++ (x ∷ rest) ≡ spell_sheet v
    → (place : ℕ) × Fault s sheet 0 missing place × (read_sheet s ≡ refused missing place)
cut_short s v xs x rest l w e = cut_listed s x rest _ _ (ap read_sheet e ∙ sheet_read v xs l w)
