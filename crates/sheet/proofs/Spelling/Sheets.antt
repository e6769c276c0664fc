-- A sheet's bytes and its value: what is read is spelled so, what is spelled is read, and no two values are spelled the same. Assumes nothing.
use mathlib.Core.Path.{◌≡◌, refl, sym, ap, ap₂, ◌∙◌, subst}
use mathlib.Core.List.{List, [], ◌∷◌, ◌++◌, map}
use Prim.Native.Nat.{ℕ, ◌≤◌}
use native.Mathlib.Omega.{arith}
use lib.Dec.{leb, eqb}
use lib.ListN.{length, length-map}
use borrow.Author.Tests.{leb-true, eqb-true, eq-eqb}
use Rattle.reply.specs.Numbers.{beyond, trailing}
use Rattle.field.specs.Read.{Read, Read.got, bind}
use Rattle.field.specs.Spelling.{bytes_of, AllBytes, Bytes}
use Rattle.field.proofs.Read.{through, cond_left}
use Rattle.field.proofs.Spelling.{join, split, whole_text_lem, itself}
use Rattle.envelope.specs.declared.Node.{Node}
use Rattle.expression.specs.Expression.{Word, Clock, spell_word, spell_clock}
use Rattle.expression.specs.Evaluate.{word_node, word_nodes, Worked}
use Rattle.expression.specs.Spelled.{indexes}
use Rattle.sheet.specs.Sheet.{Sheet, words_most, clocks_most, links_most, bytes_most, spell_link, rows, section, spell_sheet, Every, Each, WordRow, ClockRow, LinkRow, Legal}
use Rattle.sheet.specs.Reader.{section_at, word_at, clock_at, link_at, links_on, clocks_on, read_from, read_sheet}
use Rattle.sheet.specs.SheetRead.{ClockNode, clock_of, node_of_clock, SheetRead}
use Rattle.sheet.proofs.Refusing.Format.{short_enough, ended}
use Rattle.sheet.proofs.Spelling.Rows.{same_got, each_every, every_each, section_reads, section_read}
use Rattle.sheet.proofs.Spelling.Words.{word_reads, word_read}
use Rattle.sheet.proofs.Spelling.Clocks.{ClockMade, clock_reads, clock_read}
use Rattle.sheet.proofs.Spelling.Links.{link_reads, link_read}
use Rattle.sheet.proofs.Spelling.Worked.{rows_worked, rows_clocks, together, together_clocks, together_nodes, worked_rows}

-- ---- a section, by rows that hold more than they spell
pub rows_map : {A B : Type 0} (f : B → List ℕ) (g : A → B) (zs : List A) → rows f (map g zs) ≡ rows (λ z. f (g z)) zs
unfolding rows
rows_map f g [] = refl
rows_map f g (z ∷ zs) = ap (λ (l : List ℕ). f (g z) ++ l) (rows_map f g zs)

pub section_map : {A B : Type 0} (f : B → List ℕ) (g : A → B) (zs : List A) → section f (map g zs) ≡ section (λ z. f (g z)) zs
unfolding section
section_map f g zs = ap₂ {C = List ℕ} (λ (n : ℕ) (l : List ℕ). bytes_of 2 n ++ l) (length-map zs g) (rows_map f g zs)

abbrev pub spell_row : ClockNode → List ℕ
spell_row r = spell_clock (clock_of r)

-- ---- what is read is spelled so
pub record Opens (s : List ℕ) (o : SheetRead) (c : ℕ) : Type 0 where
  pub legal : Legal o.sheet
  pub worked : Worked o.sheet.words o.sheet.clocks o.table
  pub bytes : s ≡ spell_sheet o.sheet
  pub end : c ≡ length s

module _ (s : List ℕ) (bytes : AllBytes s) where
  reads_from : (o : SheetRead) (c : ℕ) → length s ≤ bytes_most → read_from 0 s ≡ got o c → Opens s o c
  unfolding read_from clocks_on links_on spell_sheet
  reads_from o c most h =
      let r₁ = through (section_at (λ xs a. word_at s a) words_most s 0) _ o c h in
      let ws : List Node = word_nodes r₁.0 in
      let r₂ = through (section_at (clock_at s ws) clocks_most s r₁.1) _ o c r₁.3 in
      let n : ℕ = length r₂.0 in
      let r₃ = through (section_at (link_at s n) links_most s r₂.1) _ o c r₂.3 in
      let p = cond_left (eqb r₃.1 (length s)) _ trailing r₃.1 o c r₃.3 in
      let v : Sheet = record { words = r₁.0; clocks = map clock_of r₂.0; links = r₃.0 } in
      let b₁ = section_reads s (λ xs a. word_at s a) spell_word (λ xs w. WordRow w) bytes (λ xs a w c. word_reads s bytes a w c) words_most 0 r₁.0 r₁.1 r₁.2 in
      let b₂ = section_reads s (clock_at s ws) spell_row (ClockMade ws) bytes (λ xs a r c. clock_reads s bytes ws xs a r c) clocks_most r₁.1 r₂.0 r₂.1 r₂.2 in
      let b₃ = section_reads s (link_at s n) spell_link (λ xs l. LinkRow n l) bytes (λ xs a l c. link_reads s bytes n xs a l c) links_most r₂.1 r₃.0 r₃.1 r₃.2 in
      let e₂ : n ≡ length (map clock_of r₂.0) = sym (length-map r₂.0 clock_of) in
      let b₂' : Bytes s r₁.1 (section spell_clock (map clock_of r₂.0)) r₂.1 = subst (λ (xs : List ℕ). Bytes s r₁.1 xs r₂.1) (sym (section_map spell_clock clock_of r₂.0)) b₂.2 in
      let all : Bytes s 0 (spell_sheet v) r₃.1 = join b₁.2 (join b₂' b₃.2) in
      let k : r₃.1 ≡ length s = eqb-true r₃.1 (length s) p.0 in
      let e : s ≡ spell_sheet v = whole_text_lem s (spell_sheet v) r₃.1 all k in
      let l : Legal v =
      record {
        words_within = b₁.0;
        clocks_within = omega (arith, b₂.0, e₂);
        links_within = b₃.0;
        words_legal = each_every WordRow [] r₁.0 b₁.1;
        clocks_legal = rows_clocks r₁.0 r₂.0 [] b₂.1;
        links_legal = subst (λ (m : ℕ). Each (λ xs l. LinkRow m l) [] r₃.0) e₂ b₃.1;
        bytes_within = subst (λ (xs : List ℕ). length xs ≤ bytes_most) e most;
      } in
      same_got (λ (x : SheetRead) (d : ℕ). Opens s x d) p.1 (record { legal = l; worked = rows_worked r₁.0 r₂.0 b₂.1; bytes = e; end = k })

  pub sheet_reads : (o : SheetRead) (c : ℕ) → read_sheet s ≡ got o c → Opens s o c
  unfolding read_sheet
  sheet_reads o c h =
      let t = cond_left (leb (length s) bytes_most) _ beyond bytes_most o c h in
      reads_from o c (leb-true (length s) bytes_most t.0) t.1

-- ---- and what is spelled is read
-- what follows the clocks: the links, and the end
abbrev pub lastly : List ℕ → List Word → List Clock → List Node → ℕ → Read SheetRead
lastly s words clocks xs b =
    bind (section_at (link_at s (length clocks)) links_most s b) λ ls c.
    ended s (record { sheet = record { words = words; clocks = clocks; links = ls }; table = xs }) c

module _ (s : List ℕ) (words : List Word) (most : length words ≤ words_most) (legal : Every WordRow words) where
  pub few_words : length (word_nodes words) ≤ indexes
  few_words = omega (arith, length-map words word_node)

  pub words_read : (d a : ℕ) → Bytes s d (section spell_word words) a → section_at (λ xs a. word_at s a) words_most s d ≡ got words a
  words_read d a b =
      section_read s (λ xs a. word_at s a) spell_word (λ xs w. WordRow w) (λ xs a w c k. word_read s a w c) words_most d words a (omega arith) most (every_each WordRow [] words legal) b

  rows_to_links : (zs : List ClockNode) (d a b : ℕ) → length zs ≤ clocks_most → Each (ClockMade (word_nodes words)) [] zs → Bytes s d (section spell_word words) a → Bytes s a (section spell_row zs) b
      → read_from d s ≡ lastly s words (map clock_of zs) (map node_of_clock zs) b
  unfolding read_from clocks_on links_on
  rows_to_links zs d a b hz lz bw bz =
      let n : length (map clock_of zs) ≡ length zs = length-map zs clock_of in
      let f : section_at (clock_at s (word_nodes words)) clocks_most s a ≡ got zs b =
      section_read s (clock_at s (word_nodes words)) spell_row (ClockMade (word_nodes words)) (λ xs a r c k. clock_read s (word_nodes words) xs a c few_words k r) clocks_most a zs b (omega arith) hz lz bz in
      rw (words_read d a bw, f, n)

  -- a text that is right up to the links: what follows is the reading of the links
  pub to_links : (clocks : List Clock) (xs : List Node) (d a b : ℕ) → length clocks ≤ clocks_most → Every ClockRow clocks → Worked words clocks xs
      → Bytes s d (section spell_word words) a → Bytes s a (section spell_clock clocks) b → read_from d s ≡ lastly s words clocks xs b
  to_links clocks xs d a b hc lc w bw bc =
      let zs : List ClockNode = together clocks xs in
      let p : map clock_of zs ≡ clocks = together_clocks clocks xs w.many in
      let q : map node_of_clock zs ≡ xs = together_nodes clocks xs w.many in
      let n : length zs ≡ length clocks = sym (length-map zs clock_of) ∙ ap length p in
      let c : Bytes s a (section spell_row zs) b = subst (λ (ys : List ℕ). Bytes s a ys b) (ap (section spell_clock) (sym p) ∙ section_map spell_clock clock_of zs) bc in
      rows_to_links zs d a b (omega arith) (worked_rows words clocks xs w lc) bw c
      ∙ ap₂ {C = Read SheetRead} (λ (cs : List Clock) (ys : List Node). lastly s words cs ys b) p q

-- a text that is right up to the end of its links
pub to_end : (s : List ℕ) (v : Sheet) (xs : List Node) (d c : ℕ) → Legal v → Worked v.words v.clocks xs → Bytes s d (spell_sheet v) c
    → read_from d s ≡ ended s (record { sheet = v; table = xs }) c
unfolding spell_sheet
to_end s v xs d c l w b =
    let n : ℕ = length v.clocks in
    let m : n ≤ indexes = omega (arith, l.clocks_within) in
    let b₁ = split (section spell_word v.words) _ b in
    let b₂ = split (section spell_clock v.clocks) _ b₁.2 in
    let f : section_at (link_at s n) links_most s b₂.0 ≡ got v.links c =
    section_read s (link_at s n) spell_link (λ xs l. LinkRow n l) (λ xs a l c k. link_read s n xs a l c m) links_most b₂.0 v.links c (omega arith) l.links_within l.links_legal b₂.2 in
    to_links s v.words l.words_within l.words_legal v.clocks xs d b₁.0 b₂.0 l.clocks_within l.clocks_legal w b₁.1 b₂.1 ∙ rw f

pub sheet_read : (v : Sheet) (xs : List Node) → Legal v → Worked v.words v.clocks xs → read_sheet (spell_sheet v) ≡ got (record { sheet = v; table = xs }) (length (spell_sheet v))
sheet_read v xs l w =
    let s : List ℕ = spell_sheet v in
    short_enough s l.bytes_within ∙ to_end s v xs 0 (length s) l w (itself s []) ∙ rw (eq-eqb (length s) (length s) refl)

-- no two sheets that can be worked out are spelled the same
pub one_sheet : (v u : Sheet) (xs ys : List Node) → Legal v → Legal u → Worked v.words v.clocks xs → Worked u.words u.clocks ys → spell_sheet v ≡ spell_sheet u
    → (v ≡ u) × (xs ≡ ys)
one_sheet v u xs ys l m p q e =
    let z : ◌≡◌ {A = Read SheetRead} (got (record { sheet = v; table = xs }) (length (spell_sheet v))) (got (record { sheet = u; table = ys }) (length (spell_sheet u))) =
    sym (sheet_read v xs l p) ∙ ap read_sheet e ∙ sheet_read u ys m q in
    let o : ◌≡◌ {A = SheetRead} (record { sheet = v; table = xs }) (record { sheet = u; table = ys }) = cc in
    (ap (λ (x : SheetRead). x.sheet) o, ap (λ (x : SheetRead). x.table) o)
