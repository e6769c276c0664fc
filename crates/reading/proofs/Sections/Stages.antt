-- A sheet that is read section by section: what is answered and left from a section on, by what the reader of the section answered and what is answered and left
-- from the next one on. Assumes nothing.
use mathlib.Core.Path.{◌≡◌, refl, sym, ap, ◌∙◌, subst}
use mathlib.Core.List.{List, [], ◌∷◌, map}
use Prim.Native.Nat.{ℕ, ◌+◌, ◌≤◌, ◌<◌}
use native.Mathlib.Omega.{arith}
use lib.Dec.{eqb}
use lib.ListN.{length, take, length-map}
use borrow.Author.Tests.{lt-leb, eq-eqb, ne_eqb}
use Rattle.reply.specs.Numbers.{trailing}
use Rattle.field.specs.Read.{Read, Read.got, Read.refused}
use Rattle.field.specs.Spelling.{AllBytes}
use Rattle.field.specs.Field.{read_of}
use Rattle.field.specs.declared.Cursor.{Cursor}
use Rattle.std.specs.Prelude.{Result, Ok, Err}
use Rattle.reply.specs.declared.Refusal.{Refusal}
use Rattle.reply.specs.Refusal.{cause_number, refused_for}
use Rattle.reply.specs.Inner.Causes.{cause_with}
use Rattle.field.proofs.Read.{through, cond_left, mapped_got}
use Rattle.field.proofs.Spelling.{end}
use Rattle.envelope.specs.declared.Node.{Node}
use Rattle.expression.specs.Expression.{Word, spell_word}
use Rattle.expression.specs.Evaluate.{word_node, word_nodes}
use Rattle.reading.specs.declared.Found.{Found}
use Rattle.reply.specs.declared.Cause.TheVariants.{Trailing, Beyond}
use Rattle.reply.proofs.Causes.{same_refusal}
use Rattle.sheet.specs.Sheet.{Link, words_most, clocks_most, links_most, bytes_most, section, WordRow}
use Rattle.sheet.specs.Reader.{section_at, clock_at, link_at, as_read, links_on, clocks_on, read_from, read_sheet}
use Rattle.sheet.specs.SheetRead.{ClockNode, clock_of, node_of_clock, SheetRead}
use Rattle.reading.specs.Inner.Sections.{Left, WordRows, ClockRows, LinkRows, state_of_row, state_of_clock, ends_of, reading_from, reading_of, EndsLeft, Tabled, ToEnd, FromClocks}
use Rattle.sheet.proofs.Refusing.Format.{short_enough}
use Rattle.sheet.proofs.Spelling.Rows.{section_reads}
use Rattle.sheet.proofs.Spelling.Words.{word_reads}
use Rattle.reading.proofs.Sections.Readings.{sectioned}
use Rattle.reading.proofs.Sections.RowTables.{left_refused, left_counted, left_table}
use Rattle.reading.proofs.Sections.WordTable.{word_row_at}
use Rattle.reading.proofs.Sections.LinkTable.{links_left}

-- ---- rows that were answered: how many, and up to where
got_rows : {A B : Type 0} (f : A → B) (X : Read (List A)) (r : Result (ℕ × Cursor) Refusal) (t : List B) (n : ℕ) (c : Cursor) → Left f X r t → r ≡ Ok (n, c) → (xs : List A) × (X ≡ got xs c.at) × (length xs ≡ n)
got_rows f X r t n c h is = mapped_got length X n c.at (left_counted f X r t h ∙ ap read_of is)

-- ---- what was opened holds the words and the clocks that were read before
module _ (s : List ℕ) (ws : List Word) where
  links_opened : (rows : List ClockNode) (a : ℕ) (o : SheetRead) (d : ℕ) → links_on s ws rows a ≡ got o d → (ls : List Link) × (as_read ws rows ls ≡ o)
  unfolding links_on
  links_opened rows a o d h =
      let r = through (section_at (link_at s (length rows)) links_most s a) _ o d h in
      let p = cond_left (eqb r.1 (length s)) (got (as_read ws rows r.0) r.1) trailing r.1 o d r.3 in
      (r.0, cc p.1)

  clocks_opened : (a : ℕ) (o : SheetRead) (d : ℕ) → clocks_on s ws a ≡ got o d → o.sheet.words ≡ ws
  unfolding clocks_on
  clocks_opened a o d h =
      let r = through (section_at (clock_at s (word_nodes ws)) clocks_most s a) _ o d h in
      ap (λ (x : SheetRead). x.sheet.words) (sym (links_opened r.0 r.1 o d r.3).1)

-- ---- from the links on
module _ (s : List ℕ) (first a m : ℕ) (q : Result (ℕ × Cursor) Refusal) (es : List Link) (told : LinkRows (section_at (link_at s m) links_most s a) q es) where
  pub links_refused : (e : Refusal) → q ≡ Err e → ToEnd s first a m (Err e) es
  unfolding links_on
  links_refused e is ws rows n =
      let x : section_at (link_at s (length rows)) links_most s a ≡ refused (cause_number e.cause) e.place =
      rw n (left_refused ends_of (section_at (link_at s m) links_most s a) q es e told is) in
      rw x (ap Err (sym (same_refusal e)), tt)

  module _ (n : ℕ) (c : Cursor) (is : q ≡ Ok (n, c)) where
    links : (ls : List Link) × (section_at (link_at s m) links_most s a ≡ got ls c.at) × (length ls ≡ n)
    links = got_rows ends_of (section_at (link_at s m) links_most s a) q es n c told is

    links_read : (rows : List ClockNode) → length rows ≡ m → section_at (link_at s (length rows)) links_most s a ≡ got links.0 c.at
    links_read rows e = rw e links.1

    -- bytes follow
    pub links_past : (c.at ≡ length s → ⊥) → ToEnd s first a m (refused_for Trailing c.at) es
    unfolding links_on cause_with
    links_past k ws rows e = rw (links_read rows e, ne_eqb c.at (length s) k) (refl, tt)

    pub links_got : c.at ≡ length s → ToEnd s first a m (Ok (record { clocks = m; links = n; clockrows = first })) es
    unfolding links_on
    links_got k ws rows e =
        let many : m ≡ length (map node_of_clock rows) = sym e ∙ sym (length-map rows node_of_clock) in
        let found : ◌≡◌ {A = Result Found Refusal} (Ok (record { clocks = m; links = n; clockrows = first })) (reading_from first (got (as_read ws rows links.0) c.at)) =
        (λ i. Ok (record { clocks = many i; links = sym links.2 i; clockrows = first })) in
        rw (links_read rows e, eq-eqb c.at (length s) k) (found, links_left (section_at (link_at s m) links_most s a) q es links.0 c.at links.1 told)

-- ---- from the clocks on
map_states : (rows : List ClockNode) → map state_of_clock (map clock_of rows) ≡ map state_of_row rows
map_states [] = refl
map_states (r ∷ rows) = ap {B = List ℕ} (λ xs. state_of_row r ∷ xs) (map_states rows)

module _ (s : List ℕ) (a : ℕ) (xs : List Node) (h : Result (ℕ × Cursor) Refusal) (t : List Node) (ss : List ℕ) (told : ClockRows (section_at (clock_at s xs) clocks_most s a) h t ss) where
  pub clocks_refused : (es : List Link) (e : Refusal) → h ≡ Err e → FromClocks s a xs (Err e) t ss es
  unfolding clocks_on
  clocks_refused es e is ws n =
      let x : section_at (clock_at s (word_nodes ws)) clocks_most s a ≡ refused (cause_number e.cause) e.place =
      rw (← n) (left_refused node_of_clock (section_at (clock_at s xs) clocks_most s a) h t e told.nodes is) in
      rw x (ap Err (sym (same_refusal e)), tt)

  module _ (m : ℕ) (c : Cursor) (is : h ≡ Ok (m, c)) where
    clocks : (rows : List ClockNode) × (section_at (clock_at s xs) clocks_most s a ≡ got rows c.at) × (length rows ≡ m)
    clocks = got_rows node_of_clock (section_at (clock_at s xs) clocks_most s a) h t m c told.nodes is

    pub few_clocks : m ≤ clocks_most
    few_clocks = omega (arith, (sectioned (clock_at s xs) clocks_most s a clocks.0 c.at clocks.1).few, clocks.2)

    pub count_within : a + 2 ≤ length s
    count_within = (sectioned (clock_at s xs) clocks_most s a clocks.0 c.at clocks.1).there

    -- the tables hold the clocks of whatever was opened over them
    abbrev Holding : SheetRead → Type 0
    Holding o = (take (length o.table) t ≡ o.table) × (take (length o.table) ss ≡ map state_of_clock o.sheet.clocks)

    holding : (ws : List Word) (ls : List Link) → Holding (as_read ws clocks.0 ls)
    holding ws ls =
        let n : length (map node_of_clock clocks.0) ≡ length clocks.0 = length-map clocks.0 node_of_clock in (
          ap (λ (x : ℕ). take x t) n ∙ left_table node_of_clock (section_at (clock_at s xs) clocks_most s a) h t clocks.0 c.at clocks.1 told.nodes,
          ap (λ (x : ℕ). take x ss) n ∙ left_table state_of_row (section_at (clock_at s xs) clocks_most s a) h ss clocks.0 c.at clocks.1 told.states ∙ sym (map_states clocks.0),
        )

    pub clocks_then : (r : Result Found Refusal) (es : List Link) → ToEnd s (a + 2) c.at m r es → FromClocks s a xs r t ss es
    unfolding clocks_on
    clocks_then r es on ws n =
        let x : section_at (clock_at s (word_nodes ws)) clocks_most s a ≡ got clocks.0 c.at = rw (← n) clocks.1 in
        let d = on ws clocks.0 clocks.2 in
        rw x (d.0, tabled (links_on s ws clocks.0 c.at) refl d.1)
      where
        tabled : (X : Read SheetRead) → links_on s ws clocks.0 c.at ≡ X → EndsLeft X es → Tabled X t ss es
        tabled (got o d) e k =
            let w = links_opened s ws clocks.0 c.at o d e in
            let y = subst Holding w.1 (holding ws w.0) in
            (y.0, y.1, k)
        tabled (refused number place) e k = tt

-- ---- the whole sheet: what the code's reader answers and leaves
abbrev Answered : List ℕ → Result Found Refusal → List Node → List ℕ → List Link → Type 0
Answered s r t ss es = (r ≡ reading_of (read_sheet s)) × Tabled (read_sheet s) t ss es

pub too_long : (s : List ℕ) (t : List Node) (ss : List ℕ) (es : List Link) → bytes_most < length s → Answered s (refused_for Beyond bytes_most) t ss es
unfolding read_sheet cause_with
too_long s t ss es h = rw (lt-leb (length s) bytes_most h) (refl, tt)

module _ (s : List ℕ) (short : length s ≤ bytes_most) (f : Result (ℕ × Cursor) Refusal) (list : List Node) (told : WordRows s 0 f list) where
  pub words_refused : (t : List Node) (ss : List ℕ) (es : List Link) (e : Refusal) → f ≡ Err e → Answered s (Err e) t ss es
  unfolding read_from
  words_refused t ss es e is =
      let x : section_at (word_row_at s) words_most s 0 ≡ refused (cause_number e.cause) e.place =
      left_refused word_node (section_at (word_row_at s) words_most s 0) f list e told is in
      rw (short_enough s short, x) (ap Err (sym (same_refusal e)), tt)

  module _ (w : ℕ) (c : Cursor) (is : f ≡ Ok (w, c)) where
    words : (ws : List Word) × (section_at (word_row_at s) words_most s 0 ≡ got ws c.at) × (length ws ≡ w)
    words = got_rows word_node (section_at (word_row_at s) words_most s 0) f list w c told is

    pub few_words : w ≤ words_most
    few_words = omega (arith, (sectioned (word_row_at s) words_most s 0 words.0 c.at words.1).few, words.2)

    -- the table's first w nodes are theirs
    table : take w list ≡ word_nodes words.0
    table = ap (λ (n : ℕ). take n list) (sym words.2) ∙ left_table word_node (section_at (word_row_at s) words_most s 0) f list words.0 c.at words.1 told

    words_end : AllBytes s → c.at ≡ length (section spell_word words.0)
    words_end bytes =
        let b = section_reads s (word_row_at s) spell_word (λ xs w. WordRow w) bytes (λ xs a w c. word_reads s bytes a w c) words_most 0 words.0 c.at words.1 in
        omega (arith, (end b.2).0)

    pub words_then : AllBytes s → (r : Result Found Refusal) (t : List Node) (ss : List ℕ) (es : List Link) → FromClocks s c.at (take w list) r t ss es → Answered s r t ss es
    unfolding read_from
    words_then bytes r t ss es on =
        let d = on words.0 table in
        rw (short_enough s short, words.1) (d.0 ∙ placed (clocks_on s words.0 c.at) refl, d.1)
      where
        placed : (X : Read SheetRead) → clocks_on s words.0 c.at ≡ X → reading_from (c.at + 2) X ≡ reading_of X
        placed (got o d) e =
            let p : c.at + 2 ≡ length (section spell_word o.sheet.words) + 2 =
            ap (λ (x : ℕ). x + 2) (words_end bytes ∙ ap (λ (ws : List Word). length (section spell_word ws)) (sym (clocks_opened s words.0 c.at o d e))) in
            λ i. Ok (record { clocks = length o.table; links = length o.sheet.links; clockrows = p i })
        placed (refused number place) e = refl
