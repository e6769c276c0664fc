-- The promises on closing and quoting are kept, by what the contracts say. Assumes nothing.
use mathlib.Core.Path.{◌≡◌, refl, sym, ap, ◌∙◌, subst}
use mathlib.Core.Logic.{◌≢◌, ◌↔◌}
use mathlib.Core.List.{List, []}
use mathlib.Core.Option.{some}
use Prim.Native.Nat.{ℕ, ◌<◌}
use native.Mathlib.Omega.{arith}
use lib.ListN.{length, get_elem?}
use Rattle.std.specs.Prelude.{Result, Ok, Err}
use Rattle.reply.specs.declared.Refusal.{Refusal}
use Rattle.reply.specs.Inner.Causes.{refusal}
use Rattle.field.specs.Read.{Read, Read.got, Read.refused}
use Rattle.field.specs.Spelling.{AllBytes}
use Rattle.expression.specs.Expression.{Clock}
use Rattle.expression.proofs.Lookup.{lookup_there, lookup_below}
use Rattle.sheet.specs.Sheet.{ClockRow}
use Rattle.sheet.specs.Reader.{read_sheet}
use Rattle.sheet.specs.SheetRead.{SheetRead}
use Rattle.sheet.specs.Format.{Passed}
use Rattle.sizing.specs.Rooms.{rows_of}
use Rattle.sheet.specs.Locating.{clock_place}
use Rattle.sheet.proofs.Refusing.Format.{accepted_passed, passed_accepted, one_passed}
use Rattle.sheet.proofs.Spelling.Rows.{every_at}
use Rattle.sheet.proofs.Spelling.Sheets.{sheet_reads}
use Rattle.register.specs.Closing.{closing_of, closing_reply, Closes}
use Rattle.register.specs.Quoting.{quoting_of, quoted_from, quoted_part, quote_reply, Quotes, RepliesTo}
use Rattle.register.specs.Table.{HasMark}
use Rattle.register.specs.Promise.{Alters, OneClosed, ClosedInTurn, among, Quoted}
use Rattle.register.specs.OpenLinks.{those, is_open, untouched, OpenLinks}
use Rattle.register.specs.Inner.Marking.{close_in}
use Rattle.register.proofs.LinkStates.{link_states, alters, still_open}
use Rattle.register.proofs.Closes.{closing_refused, closing_absent, closing_already, closing_open, one_closed, set_passes, set_order, in_turn}
use Rattle.register.proofs.Table.{by_case}
use Rattle.register.proofs.Quotes.{quoting_refused, quoting_absent, quoting_there, quoted}

module _ (s : List ℕ) (bytes : AllBytes s) (i : ℕ) where
  read : (o : SheetRead) → Passed s o → read_sheet s ≡ got o (length s)
  read o p = passed_accepted s o (length s) p refl

  -- ---- closing
  no_close : {n p place : ℕ} {A : Type 0} → closing_of s i ≡ refused n p → closing_reply (closing_of s i) ≡ Ok place → A
  no_close {n} {p} {place} e z =
      let w : ◌≡◌ {A = Result ℕ Refusal} (Err (refusal n p)) (Ok place) = sym (ap closing_reply e) ∙ z in
      absurd (cc)

  -- a mark is a bit, so a clock that is not closed is open
  open_mark : (o : SheetRead) (k : Clock) → Passed s o → get_elem? o.sheet.clocks i ≡ some k → k.state ≢ 1 → k.state ≡ 0
  open_mark o k p e n = omega (arith, n, (every_at ClockRow o.sheet.clocks i k (sheet_reads s bytes o (length s) (read o p)).legal.clocks_legal e).state_bit)

  -- a place is answered exactly where the clock is there and open
  pub close_0 : (r : Result ℕ Refusal) (t : List ℕ) → Closes s i r t → ((place : ℕ) × (r ≡ Ok place)) ↔ ((o : SheetRead) × Passed s o × HasMark o i 0)
  close_0 r t h = rw h.reply_is (from, to)
    where
      from : (place : ℕ) × (closing_reply (closing_of s i) ≡ Ok place) → (o : SheetRead) × Passed s o × HasMark o i 0
      from z =
          by_case s i
          (λ number place h. no_close (closing_refused s i number place h) z.1)
          (λ o c h e. no_close (closing_absent s i o c h e) z.1)
          (λ o c k h e.
          let p : Passed s o = (accepted_passed s o c h).0 in
          (o, p, (k, e, open_mark o k p e λ q. no_close (closing_already s i o c h k e q) z.1)))

      to : (o : SheetRead) × Passed s o × HasMark o i 0 → (place : ℕ) × (closing_reply (closing_of s i) ≡ Ok place)
      to m = (clock_place m.0.sheet i, ap closing_reply (closing_open s i m.0 (length s) (read m.0 m.1) m.2.0 m.2.1 λ q. omega (arith, q, m.2.2)))

  -- and then it is closed
  pub closes : (r : Result ℕ Refusal) (t : List ℕ) → Closes s i r t → (place : ℕ) → r ≡ Ok place → (o : SheetRead) → Passed s o → OneClosed s i o place t
  closes r t h place z o p =
      let m = (close_0 r t h).0 (place, z) in
      let same : m.0 ≡ o = one_passed s m.0 o m.1 p in
      let k = subst (λ (x : SheetRead). HasMark x i 0) same m.2 in
      let shut : k.0.state ≢ 1 = (λ q. omega (arith, q, k.2)) in
      let w : ◌≡◌ {A = Result ℕ Refusal} (Ok place) (Ok (clock_place o.sheet i)) = sym z ∙ h.reply_is ∙ ap closing_reply (closing_open s i o (length s) (read o p) k.0 k.1 shut) in
      let at : place ≡ clock_place o.sheet i = cc in
      rw (at, h.bytes_are) (one_closed s i o (length s) (sheet_reads s bytes o (length s) (read o p)) k.0 k.1 shut)

  -- ---- quoting
  no_quote : {n p : ℕ} {A : Type 0} → quoting_of s i ≡ refused n p → quote_reply (quoting_of s i) ≡ Ok tt → A
  no_quote {n} {p} e z =
      let w : ◌≡◌ {A = Result (Unit {0}) Refusal} (Err (refusal n p)) (Ok tt) = sym (ap quote_reply e) ∙ z in
      absurd (cc)

  pub quote_0 : (r : Result (Unit {0}) Refusal) → RepliesTo s i r → (r ≡ Ok tt) ↔ ((o : SheetRead) × Passed s o × (i < length o.sheet.clocks))
  quote_0 r h = rw h.reply_is (from, to)
    where
      from : quote_reply (quoting_of s i) ≡ Ok tt → (o : SheetRead) × Passed s o × (i < length o.sheet.clocks)
      from z =
          by_case s i
          (λ number place h. no_quote (quoting_refused s i number place h) z)
          (λ o c h e. no_quote (quoting_absent s i o c h e) z)
          (λ o c k h e. (o, (accepted_passed s o c h).0, lookup_below o.sheet.clocks i k e))

      to : (o : SheetRead) × Passed s o × (i < length o.sheet.clocks) → quote_reply (quoting_of s i) ≡ Ok tt
      to m =
          let k = lookup_there m.0.sheet.clocks i m.2 in
          ap quote_reply (quoting_there s i m.0 (length s) (read m.0 m.1) k.0 k.1)

  pub quotes : (at : ℕ × ℕ) (part : List ℕ) (from : ℕ × ℕ) → Quotes s i at part from → (o : SheetRead) → Passed s o → i < length o.sheet.clocks → Quoted s i at part from
  quotes at part from q o p h =
      let k = lookup_there o.sheet.clocks i h in
      rw q.part_is (quoted s i o (length s) (sheet_reads s bytes o (length s) (read o p)) k.0 k.1 at from q.same_memory q.begins)

-- else the part is empty, and lies at the start of the sheet
pub quotes_nothing : (s : List ℕ) (i : ℕ) (at : ℕ × ℕ) (part : List ℕ) (from : ℕ × ℕ) (r : Result (Unit {0}) Refusal) → Quotes s i at part from → RepliesTo s i r → (e : Refusal) → r ≡ Err e
    → (part ≡ []) × (from.0 ≡ at.0) × (from.1 ≡ at.1)
quotes_nothing s i at part from r q a e is =
    let n = nothing (quoting_of s i) (sym a.reply_is ∙ is) in
    (q.part_is ∙ n.0, q.same_memory, omega (arith, q.begins, n.1))
  where
    nothing : (x : Read ℕ) → quote_reply x ≡ Err e → (quoted_part x s ≡ []) × (quoted_from x ≡ 0)
    nothing (got from to) h = absurd (cc)
    nothing (refused number place) h = (refl, refl)

-- ---- any set of clocks, in any order
module _ (s : List ℕ) (bytes : AllBytes s) where
  turned : (is t : List ℕ) → ClosedInTurn is s t → (o : SheetRead) → Passed s o → Passed t (close_in (among is) o)
  turned is t h o p = rw (in_turn is s t h) (set_passes s bytes is o p)

  pub any_set : (is t : List ℕ) → ClosedInTurn is s t → (o : SheetRead) → Passed s o → (after : SheetRead) × Passed t after × Alters (among is) o after
  any_set is t h o p = (close_in (among is) o, turned is t h o p, alters (among is) o)

  pub any_order : (is js t u : List ℕ) → ClosedInTurn is s t → ClosedInTurn js s u → ((i : ℕ) → among is i ≡ among js i) → t ≡ u
  any_order is js t u h k same = in_turn is s t h ∙ set_order s bytes is js same ∙ sym (in_turn js s u k)

pub open_links : OpenLinks
open_links =
    record {
      states = link_states;
      still_open = λ s bytes is t h o after p q.
          subst (λ (x : SheetRead). those is_open (rows_of x) ≡ those (untouched (among is)) (those is_open (rows_of o)))
          (one_passed t (close_in (among is) o) after (turned s bytes is t h o p) q)
          (still_open (among is) o (sheet_reads s bytes o (length s) (passed_accepted s o (length s) p refl)).legal);
    }
