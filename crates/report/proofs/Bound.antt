-- No listing is longer than `listing_most`: how long each line can be, and how many there are. Assumes nothing.
use mathlib.Core.Path.{◌≡◌, refl}
use mathlib.Core.Bool.{Bool, true, false, cond}
use mathlib.Core.List.{List, [], ◌∷◌, ◌++◌, map}
use Prim.Native.Nat.{ℕ, suc, ◌+◌, ◌*◌, ◌≤◌, ◌<◌}
use native.Mathlib.Omega.{arith}
use lib.Dec.{eqb}
use lib.IntN.{ℤ, pos, negsuc}
use lib.ListN.{length, length-append}
use Rattle.whole.proofs.Bridge.{up, down}
use Rattle.field.specs.Read.{Read.got}
use Rattle.field.specs.Spelling.{AllBytes}
use Rattle.envelope.specs.declared.Envelope.{Envelope}
use Rattle.envelope.specs.declared.Node.{Node}
use Rattle.envelope.specs.Envelope.{Taken}
use Rattle.envelope.proofs.Held.{k_up, k_down, K_up, K_down, n_small}
use Rattle.link.specs.declared.Verdict.{Verdict}
use Rattle.link.specs.declared.Verdict.TheVariants.{Accepted, Rates, Early}
use Rattle.link.specs.declared.Row.{Row}
use Rattle.link.specs.Link.{size_in, open_size_of}
use Rattle.expression.specs.Inner.Nodes.{AllTaken}
use Rattle.sheet.specs.Sheet.{Link, LinkRow, Each}
use Rattle.sheet.specs.Reader.{read_sheet}
use Rattle.sheet.specs.SheetRead.{SheetRead}
use Rattle.sizing.specs.Rooms.{row_of, rows_of, total, size_of_row}
use Rattle.reading.specs.Inner.Sections.{state_of_clock}
use Rattle.sizing.proofs.LinkRows.{row_small, open_most}
use Rattle.sizing.proofs.Served.{served}
use Rattle.sheet.proofs.Spelling.Sheets.{sheet_reads}
use Rattle.line.specs.Text.{decimal, line_of}
use Rattle.line.proofs.Digits.{length_most}
use Rattle.line.specs.Letters.{letters}
use Rattle.report.specs.Listing.{state_word, verdict_word, clock_fields, link_fields, room_fields, clock_lines, link_lines, whole_text, sheet_text, listing_most}

-- ---- fields
lower_most_lem : (z : ℤ) → up z ≤ 1000000000 → down z ≤ 1000000000 → length (decimal z) ≤ 11
unfolding decimal
lower_most_lem (pos n) h k = omega (arith, length_most 9 n (omega arith))
lower_most_lem (negsuc n) h k = omega (arith, length_most 9 (suc n) (omega arith))

upper_most_lem : (z : ℤ) → up z ≤ 1000000000 → down z ≤ 0 → length (decimal z) ≤ 10
unfolding decimal
upper_most_lem (pos n) h k = length_most 9 n (omega arith)
upper_most_lem (negsuc n) h k = absurd (omega arith)

state_most : (state : ℕ) → length (state_word state) ≤ 6
state_most state = go (eqb state 1)
  where
    go : (b : Bool) → length (cond b (letters "closed") (letters "open")) ≤ 6
    go true = omega arith
    go false = omega arith

verdict_most : (v : Verdict) → length (verdict_word v) ≤ 8
verdict_most (Accepted n) = omega arith
verdict_most Rates = omega arith
verdict_most Early = omega arith

-- ---- lines
clock_most : (i state : ℕ) (e : Envelope) → i < 1000 → Taken e → length (line_of (letters "clock") (clock_fields i state e)) ≤ 56
unfolding line_of
clock_most i state e h t =
    let few = length_most 2 i (omega arith) in
    let low = lower_most_lem e.k (k_up e t.limits) (k_down e t.limits) in
    let high = upper_most_lem e.K (K_up e t.limits) (K_down e t.limits) in
    let long = length_most 6 e.l (omega (arith, t.limits.l_within)) in
    let ones = length_most 6 e.n (omega (arith, n_small e t)) in
    simp length-append (omega (arith, state_most state))

link_most : (i : ℕ) (r : Row) → i < 1000 → r.producer < 1000 → r.consumer < 1000 → size_in r.verdict ≤ 3000000000 → length (line_of (letters "link") (link_fields i r)) ≤ 44
unfolding line_of
link_most i r h p c s =
    let few = length_most 2 i (omega arith) in
    let from = length_most 2 r.producer (omega arith) in
    let to = length_most 2 r.consumer (omega arith) in
    let size = length_most 9 (size_in r.verdict) (omega arith) in
    simp length-append (omega (arith, state_most r.state, verdict_most r.verdict))

room_most : (opened whole : ℕ) → opened ≤ 768000000000 → whole ≤ 768000000000 → length (line_of (letters "room") (room_fields opened whole)) ≤ 31
unfolding line_of
room_most opened whole h k =
    let some = length_most 11 opened (omega arith) in
    let all = length_most 11 whole (omega arith) in
    simp length-append (omega arith)

-- ---- all of them
clocks_within : (i : ℕ) (ss : List ℕ) (xs : List Node) → AllTaken xs → i + length xs ≤ 1000 → length (clock_lines i ss xs) ≤ 56 * length xs
unfolding clock_lines
clocks_within i [] xs t h = omega arith
clocks_within i (state ∷ ss) [] t h = omega arith
clocks_within i (state ∷ ss) (x ∷ xs) t h =
    let one = clock_most i state x.envelope (omega arith) (t 0 x refl) in
    let rest = clocks_within (suc i) ss xs (λ j. t (suc j)) (omega arith) in
    simp length-append (omega arith)

module _ (o : SheetRead) (t : AllTaken o.table) (m : ℕ) (few : m ≤ 1000) where
  links_within : (i : ℕ) (ks ls : List Link) → Each (λ xs l. LinkRow m l) ks ls → i + length ls ≤ 1000 → length (link_lines i (map (row_of o) ls)) ≤ 44 * length ls
  unfolding link_lines
  links_within i ks [] e h = omega arith
  links_within i ks (l ∷ ls) e h =
      let one = link_most i (row_of o l) (omega arith) (omega (arith, e.0.producer_there)) (omega (arith, e.0.consumer_there)) (row_small o.table t l) in
      let rest = links_within (suc i) (ks ++ (l ∷ [])) ls e.1 (omega arith) in
      simp length-append (omega arith)

  rooms_most : (ls : List Link) → (total (map open_size_of (map (row_of o) ls)) ≤ 3000000000 * length ls) × (total (map size_of_row (map (row_of o) ls)) ≤ 3000000000 * length ls)
  unfolding total
  rooms_most [] = (omega arith, omega arith)
  rooms_most (l ∷ ls) =
      let one = row_small o.table t l in
      let opens = open_most (row_of o l) in
      let rest = rooms_most ls in
      (omega arith, omega arith)

pub listing_within : (s : List ℕ) → AllBytes s → (o : SheetRead) (c : ℕ) → read_sheet s ≡ got o c → length (sheet_text o) ≤ listing_most
unfolding whole_text
listing_within s bytes o c h =
    let g = sheet_reads s bytes o c h in
    let t = (served s bytes).taken o c h in
    let few = g.legal.clocks_within in
    let clocks = clocks_within 0 (map state_of_clock o.sheet.clocks) o.table t (omega (arith, g.worked.many)) in
    let links = links_within o t (length o.sheet.clocks) (omega arith) 0 [] o.sheet.links g.legal.links_legal (omega (arith, g.legal.links_within)) in
    let rooms = rooms_most o t (length o.sheet.clocks) (omega arith) o.sheet.links in
    let room = room_most (total (map open_size_of (rows_of o))) (total (map size_of_row (rows_of o))) (omega (arith, g.legal.links_within)) (omega (arith, g.legal.links_within)) in
    simp length-append (omega (arith, g.worked.many, g.legal.links_within))
