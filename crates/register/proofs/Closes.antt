-- Closing from the bytes: each answer, the bytes after one close, and after many in any order. Assumes nothing.
use mathlib.Core.Path.{◌≡◌, refl, sym, ap, ◌∙◌, subst}
use mathlib.Core.Logic.{◌≢◌}
use mathlib.Core.Bool.{Bool, true, false, cond, ◌||◌}
use mathlib.Core.List.{List, [], ◌∷◌}
use mathlib.Core.Option.{Option, none, some}
use Prim.Native.Nat.{ℕ, ◌+◌, ◌<◌}
use native.Mathlib.Omega.{arith}
use lib.Dec.{eqb}
use lib.ListN.{length, set, get_elem?, length-set}
use lib.Seq.{get_or-set_same, get_or-set_other}
use borrow.Author.Tests.{eqb-true, eqb-false, eq-eqb, ne_eqb}
use Rattle.reply.specs.Numbers.{no_clock, already_closed}
use Rattle.field.specs.Read.{Read, Read.got, Read.refused}
use Rattle.field.specs.Spelling.{AllBytes, Bytes}
use Rattle.field.proofs.Spelling.{end}
use Rattle.expression.specs.Expression.{Clock, spell_clock}
use Rattle.expression.proofs.Lookup.{none_some, lookup_below}
use Rattle.sheet.specs.Sheet.{spell_sheet, ClockRow}
use Rattle.sheet.specs.Reader.{read_sheet}
use Rattle.sheet.specs.SheetRead.{SheetRead}
use Rattle.sheet.specs.Format.{Passed}
use Rattle.sheet.proofs.Refusing.Format.{accepted_passed, passed_accepted}
use Rattle.sheet.proofs.Spelling.Rows.{every_at}
use Rattle.sheet.proofs.Spelling.Sheets.{Opens, sheet_reads}
use Rattle.sheet.specs.Locating.{clock_place, located_in}
use Rattle.register.specs.Closing.{closing_of, closed_bytes}
use Rattle.register.specs.Inner.Marking.{closed_clock, marked, close_sheet, close_in, close_each}
use Rattle.register.specs.Promise.{only, OneClosed, ClosedInTurn, ClosedInTurn.none, ClosedInTurn.next, among}
use Rattle.register.proofs.Marks.{marks_kept, marks_same, marks_both}
use Rattle.sheet.proofs.Spelling.Places.{clock_bytes, state_byte, clock_at_lem}
use Rattle.register.proofs.Sheets.{one_byte, close_opens, kept_same, opens_read}
use Rattle.register.proofs.LinkStates.{alters}

-- ---- each answer
pub closing_refused : (s : List ℕ) (i number place : ℕ) → read_sheet s ≡ refused number place → closing_of s i ≡ refused number place
unfolding closing_of located_in
closing_refused s i number place h = rw h

module _ (s : List ℕ) (i : ℕ) (o : SheetRead) (c : ℕ) (read : read_sheet s ≡ got o c) where
  pub closing_absent : get_elem? o.sheet.clocks i ≡ none → closing_of s i ≡ refused no_clock 0
  unfolding closing_of located_in
  closing_absent e = rw (read, e)

  closing_there : (k : Clock) → get_elem? o.sheet.clocks i ≡ some k
      → closing_of s i ≡ cond (eqb k.state 1) (refused already_closed 0) (got (clock_place o.sheet i) (clock_place o.sheet i + 1))
  unfolding closing_of located_in
  closing_there k e = rw (read, e)

  pub closing_already : (k : Clock) → get_elem? o.sheet.clocks i ≡ some k → k.state ≡ 1 → closing_of s i ≡ refused already_closed 0
  closing_already k e h = closing_there k e ∙ rw (eq-eqb k.state 1 h)

  pub closing_open : (k : Clock) → get_elem? o.sheet.clocks i ≡ some k → k.state ≢ 1 → closing_of s i ≡ got (clock_place o.sheet i) (clock_place o.sheet i + 1)
  closing_open k e h = closing_there k e ∙ rw (ne_eqb k.state 1 h)

opens_pass : (s : List ℕ) (o : SheetRead) (c : ℕ) → Opens s o c → Passed s o
opens_pass s o c h = (accepted_passed s o c (opens_read s o c h)).0

-- ---- one clock
module _ (s : List ℕ) (i : ℕ) (o : SheetRead) (c : ℕ) (opens : Opens s o c) where
  read : read_sheet s ≡ got o c
  read = opens_read s o c opens

  turned : (k : Clock) → get_elem? o.sheet.clocks i ≡ some k → set s (clock_place o.sheet i) 1 ≡ spell_sheet (close_sheet (only i) o.sheet)
  turned k e = ap (λ (t : List ℕ). set t (clock_place o.sheet i) 1) opens.bytes ∙ one_byte o.sheet i (lookup_below o.sheet.clocks i k e)

  -- whatever the answer is, the bytes open the sheet with that clock marked closed, if it is there
  pub then_opens : Opens (closed_bytes (closing_of s i) s) (close_in (only i) o) c
  then_opens = by (get_elem? o.sheet.clocks i) refl
    where
      kept : ((j : ℕ) (x : Clock) → get_elem? o.sheet.clocks j ≡ some x → marked (eqb i j) x ≡ x) → Opens s (close_in (only i) o) c
      kept h = subst (λ (u : SheetRead). Opens s u c) (sym (kept_same (only i) o (marks_kept (only i) o.sheet.clocks h))) opens

      none_there : get_elem? o.sheet.clocks i ≡ none → (j : ℕ) (x : Clock) → get_elem? o.sheet.clocks j ≡ some x → marked (eqb i j) x ≡ x
      none_there e j x q = rw (ne_eqb i j λ p. none_some (sym e ∙ ap (get_elem? o.sheet.clocks) p ∙ q))

      same : (k x : Clock) → k ≡ x → k.state ≡ 1 → closed_clock x ≡ x
      same k x e h = ap (λ (n : ℕ). record { state = n; expr = x.expr }) (sym h ∙ ap (λ (y : Clock). y.state) e)

      closed_there : (k : Clock) → get_elem? o.sheet.clocks i ≡ some k → k.state ≡ 1 → (j : ℕ) (x : Clock) (b : Bool) → eqb i j ≡ b → get_elem? o.sheet.clocks j ≡ some x → marked b x ≡ x
      closed_there k e h j x true p q =
          let w : some k ≡ some x = sym e ∙ ap (get_elem? o.sheet.clocks) (eqb-true i j p) ∙ q in
          let z : k ≡ x = cc in
          same k x z h
      closed_there k e h j x false p q = refl

      at : (k : Clock) → get_elem? o.sheet.clocks i ≡ some k → (b : Bool) → eqb k.state 1 ≡ b → Opens (closed_bytes (closing_of s i) s) (close_in (only i) o) c
      at k e true h = rw (closing_already s i o c read k e (eqb-true k.state 1 h)) (kept λ j x. closed_there k e (eqb-true k.state 1 h) j x (eqb i j) refl)
      at k e false h = rw (closing_open s i o c read k e (eqb-false k.state 1 h), turned k e) (close_opens (only i) s o c opens)

      by : (r : Option Clock) → get_elem? o.sheet.clocks i ≡ r → Opens (closed_bytes (closing_of s i) s) (close_in (only i) o) c
      by none e = rw (closing_absent s i o c read e) (kept (none_there e))
      by (some k) e = at k e (eqb k.state 1) refl

  -- a clock that was open
  pub one_closed : (k : Clock) → get_elem? o.sheet.clocks i ≡ some k → k.state ≢ 1 → OneClosed s i o (clock_place o.sheet i) (closed_bytes (closing_of s i) s)
  one_closed k e h =
      let place : ℕ = clock_place o.sheet i in
      let b : Bytes s place (spell_clock k) (place + length (spell_clock k)) = rw opens.bytes (clock_bytes o.sheet i k e) in
      let bit : k.state < 2 = (every_at ClockRow o.sheet.clocks i k opens.legal.clocks_legal e).state_bit in
      let lt : place < length s = omega (arith, end b) in
      let after : Opens (set s place 1) (close_in (only i) o) c = rw (closing_open s i o c read k e h) at then_opens in
      let there : i < length o.sheet.clocks = lookup_below o.sheet.clocks i k e in
      rw (closing_open s i o c read k e h)
      (record {
        after = close_in (only i) o;
        passes = opens_pass (set s place 1) (close_in (only i) o) c after;
        alters = alters (only i) o;
        its_place = clock_at_lem s o c opens i (omega arith);
        was_open = omega (arith, state_byte k b, h);
        now_closed = get_or-set_same s place 1 0 lt;
        other_bytes = λ j d. get_or-set_other s place j 1 0 d;
        same_length = length-set s place 1;
      })

-- ---- many clocks
each_refused : (s : List ℕ) (number place : ℕ) → read_sheet s ≡ refused number place → (is : List ℕ) → close_each is s ≡ s
unfolding close_each
each_refused s number place h [] = refl
each_refused s number place h (i ∷ is) = rw (closing_refused s i number place h) (each_refused s number place h is)

-- the bytes open the sheet with the clocks of the list marked closed
each_opens : (is : List ℕ) (s : List ℕ) (o : SheetRead) (c : ℕ) → Opens s o c → Opens (close_each is s) (close_in (among is) o) c
unfolding close_each among
each_opens [] s o c h = subst (λ (u : SheetRead). Opens s u c) (sym (kept_same (λ j. false) o (marks_kept (λ j. false) o.sheet.clocks λ j x e. refl))) h
each_opens (i ∷ is) s o c h =
    let both : close_in (among is) (close_in (only i) o) ≡ close_in (λ j. only i j || among is j) o =
    ap (λ (ks : List Clock). record { sheet = record { words = o.sheet.words; clocks = ks; links = o.sheet.links }; table = o.table }) (marks_both (among is) (only i) o.sheet.clocks) in
    subst (λ (u : SheetRead). Opens (close_each is (closed_bytes (closing_of s i) s)) u c) both (each_opens is (closed_bytes (closing_of s i) s) (close_in (only i) o) c (then_opens s i o c h))

module _ (s : List ℕ) (bytes : AllBytes s) where
  opened : (is : List ℕ) (o : SheetRead) (c : ℕ) → read_sheet s ≡ got o c → Opens (close_each is s) (close_in (among is) o) c
  opened is o c h = each_opens is s o c (sheet_reads s bytes o c h)

  pub set_passes : (is : List ℕ) (o : SheetRead) → Passed s o → Passed (close_each is s) (close_in (among is) o)
  set_passes is o p = opens_pass (close_each is s) (close_in (among is) o) (length s) (opened is o (length s) (passed_accepted s o (length s) p refl))

  pub set_order : (is js : List ℕ) → ((i : ℕ) → among is i ≡ among js i) → close_each is s ≡ close_each js s
  set_order is js same = either (read_sheet s) refl
    where
      either : (r : Read SheetRead) → read_sheet s ≡ r → close_each is s ≡ close_each js s
      either (got o c) h =
          (opened is o c h).bytes
          ∙ ap (λ (ks : List Clock). spell_sheet (record { words = o.sheet.words; clocks = ks; links = o.sheet.links })) (marks_same (among is) (among js) o.sheet.clocks same)
          ∙ sym (opened js o c h).bytes
      either (refused number place) h = each_refused s number place h is ∙ sym (each_refused s number place h js)

-- one after another, by what each close's contract says
pub in_turn : (is s t : List ℕ) → ClosedInTurn is s t → t ≡ close_each is s
unfolding close_each
in_turn [] s t none = refl
in_turn (i ∷ is) s u (next {t = t} h k) = in_turn is t u k ∙ ap (close_each is) h.bytes_are
