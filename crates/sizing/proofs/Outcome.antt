-- What working out answers and leaves, by what the code's reader of a whole sheet answered and left.
-- Assumes nothing.
use mathlib.Core.Path.{◌≡◌, refl, sym, ap, ap₂, ◌∙◌, subst}
use mathlib.Core.Logic.{◌⊎◌, inl, inr}
use mathlib.Core.List.{List, [], ◌∷◌, ◌++◌, map}
use Prim.Native.Nat.{ℕ, zero, suc, ◌*◌, ◌≤◌, ◌<◌}
use native.Mathlib.Omega.{arith}
use lib.IntN.{ℤ}
use Rattle.std.specs.Prelude.{Result, Ok, Err}
use lib.ListN.{length, get_or, get_elem?, take, drop, length-map}
use borrow.Author.Tests.{le-leb, lt-leb}
use Rattle.reply.specs.Numbers.{short_result}
use Rattle.field.specs.Read.{Read, Read.got, Read.refused}
use Rattle.field.specs.Spelling.{AllBytes}
use Rattle.link.specs.declared.Row.{Row}
use Rattle.link.specs.Link.{state_of}
use Rattle.expression.specs.Expression.{Clock}
use Rattle.envelope.specs.declared.Node.{Node}
use Rattle.reply.specs.declared.Cause.{Cause}
use Rattle.reply.specs.declared.Cause.TheVariants.{ShortResult}
use Rattle.reply.proofs.Causes.{cause_with_number}
use Rattle.reply.specs.declared.Refusal.{Refusal}
use Rattle.reply.specs.Refusal.{refused_for}
use Rattle.reply.specs.Inner.Causes.{refusal}
use Rattle.reading.specs.declared.Found.{Found}
use Rattle.sizing.specs.declared.Rooms.{Rooms}
use Rattle.sizing.specs.declared.Totals.{Totals}
use Rattle.sheet.specs.Sheet.{Link, LinkRow, clocks_most, links_most}
use Rattle.sheet.specs.Reader.{read_sheet}
use Rattle.sheet.specs.SheetRead.{SheetRead}
use Rattle.sizing.specs.Rooms.{state_in, row_of, rows_of, open_room, whole_room, verdict_in}
use Rattle.sizing.specs.WorkOut.{room_for, worked_of, reply_of, clock_numbers, link_numbers, flatten, clocks_out, links_out, WorksOut}
use Rattle.reading.specs.Inner.Sections.{found_of, reading_of, state_of_clock, Tabled}
use Rattle.sizing.specs.Inner.Rows.{row_at, rows_in, rooms_over, Ready, FoundIn, InTables, Given}
use Rattle.sheet.proofs.Spelling.Rows.{each_at}
use Rattle.sheet.proofs.Spelling.Sheets.{Opens, sheet_reads}
use Rattle.reading.proofs.Answered.{reading_got, reading_refused}

-- how many clocks and links were found
module _ (o : SheetRead) (f : Found) (f_is : found_of o ≡ f) where
  clocks_are : length o.table ≡ f.clocks
  clocks_are = ap (λ (x : Found). x.clocks) f_is

  links_are : length o.sheet.links ≡ f.links
  links_are = ap (λ (x : Found). x.links) f_is

-- ---- the answer to a sheet that is refused
pub out_refused : (s : List ℕ) (clocks links : List ℤ) (e : Refusal) → reading_of (read_sheet s) ≡ Err e → WorksOut s clocks links (Err e) clocks links
unfolding worked_of
out_refused s clocks links e h =
    let r = reading_refused (read_sheet s) e h in
    record { reply_is = rw r.2 (ap Err (sym r.3)); clocks_are = rw r.2; links_are = rw r.2 }

-- ---- a sheet that was read
module _ (s : List ℕ) (bytes : AllBytes s) (o : SheetRead) (c : ℕ) (read : read_sheet s ≡ got o c) where
  opens : Opens s o c
  opens = sheet_reads s bytes o c read

  few_clocks : length o.table ≤ clocks_most
  few_clocks = omega (arith, opens.legal.clocks_within, opens.worked.many)

  few_links : length o.sheet.links ≤ links_most
  few_links = opens.legal.links_within

-- ---- a clock's mark is its state in the table
state_at : (cs : List Clock) (i : ℕ) → get_or (map state_of_clock cs) i 0 ≡ state_in (get_elem? cs i)
state_at [] i = refl
state_at (c ∷ cs) zero = refl
state_at (c ∷ cs) (suc i) = state_at cs i

pub rows_are : (o : SheetRead) (ls : List Link) → rows_in o.table (map state_of_clock o.sheet.clocks) ls ≡ map (row_of o) ls
rows_are o [] = refl
rows_are o (l ∷ ls) = ap₂ {C = List Row} (λ r rs. r ∷ rs) one (rows_are o ls)
  where
    state : state_of (get_or (map state_of_clock o.sheet.clocks) l.producer 0) (get_or (map state_of_clock o.sheet.clocks) l.consumer 0)
        ≡ state_of (state_in (get_elem? o.sheet.clocks l.producer)) (state_in (get_elem? o.sheet.clocks l.consumer))
    state = ap₂ state_of (state_at o.sheet.clocks l.producer) (state_at o.sheet.clocks l.consumer)

    one : row_at o.table (map state_of_clock o.sheet.clocks) l ≡ row_of o l
    one = λ i. record { producer = l.producer; consumer = l.consumer; state = state i; verdict = verdict_in o.table l }

-- ---- a sheet that was read, by what was found: how many clocks and links
module _ (s : List ℕ) (bytes : AllBytes s) (o : SheetRead) (c : ℕ) (read : read_sheet s ≡ got o c) (f : Found) (f_is : found_of o ≡ f) where
  pub clocks_few : f.clocks ≤ clocks_most
  clocks_few = omega (arith, few_clocks s bytes o c read, clocks_are o f f_is)

  pub links_few : f.links ≤ links_most
  links_few = omega (arith, few_links s bytes o c read, links_are o f f_is)

  -- with its tables
  module _ (t : List Node) (ss : List ℕ) (es : List Link) (tabled : Tabled (read_sheet s) t ss es) where
    tables : Tabled (got o c) t ss es
    tables = subst (λ (r : Read SheetRead). Tabled r t ss es) read tabled

    shows : InTables o (take f.clocks t) (take f.clocks ss) (take f.links es)
    shows =
        record {
          nodes = rw (← clocks_are o f f_is) tables.0;
          states = rw (← clocks_are o f f_is) tables.1;
          links = rw (← links_are o f f_is) tables.2;
        }

    pub ready : Ready (take f.clocks t) (take f.clocks ss) (take f.links es)
    ready =
        let q = opens s bytes o c read in
        let states : length (take f.clocks ss) ≡ length o.sheet.clocks = ap length shows.states ∙ length-map o.sheet.clocks state_of_clock in
        let nodes : length (take f.clocks t) ≡ length o.table = ap length shows.nodes in
        let links : length (take f.links es) ≡ length o.sheet.links = ap length shows.links in
        record {
          many = omega (arith, nodes, states, q.worked.many);
          few_clocks = omega (arith, states, q.legal.clocks_within);
          few_links = omega (arith, links, q.legal.links_within);
          there = λ j l e.
              let row = each_at (λ ks l. LinkRow (length o.sheet.clocks) l) [] o.sheet.links j l q.legal.links_legal (ap (λ (ls : List Link). get_elem? ls j) (sym shows.links) ∙ e) in
              rw states (row.producer_there, row.consumer_there);
        }

-- ---- what is given: by the room that was lent
short_is : ◌≡◌ {A = Result Totals Refusal} (refused_for ShortResult 0) (Err (refusal short_result 0))
short_is = ap (λ (k : Cause). Err (record { cause = k; place = 0 })) (sym (cause_with_number ShortResult))

module _ (t : List Node) (ss : List ℕ) (es : List Link) (ready : Ready t ss es) (x l : List ℤ) where
  given_by : (r : Result Totals Refusal) (x' l' : List ℤ)
      → ((o : SheetRead) → InTables o t ss es → length t ≡ length o.table → length es ≡ length o.sheet.links
      → (c : ℕ) → (X : Read SheetRead) × (room_for (length x) (length l) o c ≡ X) × (r ≡ reply_of X) × (x' ≡ clocks_out X x) × (l' ≡ links_out X l))
      → Given t ss es x l r x' l'
  given_by r x' l' go o c h = let w = go o h (ap length h.nodes) (ap length h.links) c in rw w.1 (w.2, w.3, w.4)

  -- too little for the clocks or for the links
  pub short : (r : Result Totals Refusal) → (length x < 4 * length t) ⊎ ((4 * length t ≤ length x) × (length l < 3 * length es)) → r ≡ refused_for ShortResult 0 → Given t ss es x l r x l
  short r (inl h) e =
      given_by r x l λ o shown many few c.
      (refused short_result 0, rw (lt-leb (4 * length o.table) (length x) (omega (arith, many))), e ∙ short_is, refl, refl)
  short r (inr h) e =
      given_by r x l λ o shown many few c.
      (refused short_result 0, rw (le-leb (4 * length o.table) (length x) (omega (arith, many, h)), lt-leb (3 * length o.sheet.links) (length l) (omega (arith, few, h))), e ∙ short_is, refl, refl)

  pub given_all : 4 * length t ≤ length x → 3 * length es ≤ length l → (q : Rooms) (x' l' : List ℤ)
      → x' ≡ flatten clock_numbers t ++ drop (4 * length t) x
      → q ≡ rooms_over (rows_in t ss es)
      → l' ≡ flatten link_numbers (rows_in t ss es) ++ drop (3 * length es) l
      → Given t ss es x l (Ok (record { clocks = length t; links = length es; opened = q.opened; whole = q.whole })) x' l'
  unfolding open_room whole_room
  given_all fits h q x' l' p e d =
      given_by _ x' l' λ o shown many few c.
      let rows : rows_in t ss es ≡ rows_of o = rw (shown.nodes, shown.states, shown.links) (rows_are o o.sheet.links) in
      let sums : q ≡ rooms_over (rows_of o) = e ∙ ap rooms_over rows in (
        got o c,
        rw (le-leb (4 * length o.table) (length x) (omega (arith, many)), le-leb (3 * length o.sheet.links) (length l) (omega (arith, few))),
        λ i. Ok (record { clocks = many i; links = few i; opened = (sums i).opened; whole = (sums i).whole }),
        p ∙ ap₂ (λ (ys : List Node) (k : ℕ). flatten clock_numbers ys ++ drop (4 * k) x) shown.nodes many,
        d ∙ ap₂ (λ (rs : List Row) (k : ℕ). flatten link_numbers rs ++ drop (3 * k) l) rows few,
      )

-- ---- by what the code's reader found and left
module _ (s : List ℕ) (f : Found) (t : List Node) (ss : List ℕ) (es : List Link) (h : FoundIn s f t ss es) where
  pub found_sheet : (o : SheetRead) × (c : ℕ) × (read_sheet s ≡ got o c) × (found_of o ≡ f)
  found_sheet = reading_got (read_sheet s) f h.told

  pub found_few : (f.clocks ≤ clocks_most) × (f.links ≤ links_most)
  found_few = let w = found_sheet in (clocks_few s h.bytes w.0 w.1 w.2 f w.3, links_few s h.bytes w.0 w.1 w.2 f w.3)

  pub found_ready : Ready (take f.clocks t) (take f.clocks ss) (take f.links es)
  found_ready = let w = found_sheet in ready s h.bytes w.0 w.1 w.2 f w.3 t ss es h.tabled

  pub found_in_tables : (o : SheetRead) (c : ℕ) → read_sheet s ≡ got o c → InTables o (take f.clocks t) (take f.clocks ss) (take f.links es)
  found_in_tables o c e =
      let told : reading_of (got o c) ≡ Ok f = ap reading_of (sym e) ∙ h.told in
      let is : found_of o ≡ f = cc in
      shows s h.bytes o c e f is t ss es h.tabled

  -- what is given of tables that show the sheet is what working it out gives
  pub found_given : (t' : List Node) (ss' : List ℕ) (es' : List Link) → ((o : SheetRead) (c : ℕ) → read_sheet s ≡ got o c → InTables o t' ss' es')
      → (x x' l l' : List ℤ) (r : Result Totals Refusal) → Given t' ss' es' x l r x' l' → WorksOut s x l r x' l'
  unfolding worked_of
  found_given t' ss' es' shown x x' l l' r g =
      let w = found_sheet in
      let d = g w.0 w.1 (shown w.0 w.1 w.2) in
      record { reply_is = rw w.2 d.0; clocks_are = rw w.2 d.1; links_are = rw w.2 d.2 }
