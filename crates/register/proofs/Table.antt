-- Each refusal of closing and quoting is given exactly when the table says, at its place. Assumes nothing.
use mathlib.Core.Path.{◌≡◌, refl, sym, ◌∙◌}
use mathlib.Core.Logic.{◌↔◌}
use mathlib.Core.List.{List}
use mathlib.Core.Option.{Option, none, some}
use Prim.Native.Nat.{ℕ, ◌≤◌}
use native.Mathlib.Omega.{arith}
use lib.Dec.{eqb}
use lib.ListN.{length, get_elem?}
use mathlib.Core.Bool.{Bool, true, false}
use borrow.Author.Tests.{eqb-true, eqb-false}
use Rattle.reply.specs.Refusal.{RefusedWith}
use Rattle.field.specs.Read.{Read, Read.got, Read.refused}
use Rattle.field.proofs.Read.{refused_got, same_refused}
use Rattle.expression.specs.Expression.{Clock}
use Rattle.expression.proofs.Lookup.{lookup_none, lookup_past}
use Rattle.sheet.specs.Reader.{read_sheet}
use Rattle.sheet.specs.SheetRead.{SheetRead}
use Rattle.sheet.proofs.Refusing.Format.{refused_listed, listed_refused, accepted_passed, passed_accepted}
use Rattle.sheet.proofs.Refusing.Numbers.{one_to_ten}
use Rattle.sizing.proofs.Table.{refused_as}
use Rattle.register.specs.Closing.{closing_of, closing_reply}
use Rattle.register.specs.Quoting.{quoting_of, quote_reply}
use Rattle.register.specs.Table.{QuoteRefused, CloseRefused}
use Rattle.register.proofs.Closes.{closing_refused, closing_absent, closing_already, closing_open}
use Rattle.register.proofs.Quotes.{quoting_refused, quoting_absent, quoting_there}

-- a text is refused, or has no clock i, or has it
pub by_case : {P : Type 0} (s : List ℕ) (i : ℕ) → ((number place : ℕ) → read_sheet s ≡ refused number place → P)
    → ((o : SheetRead) (c : ℕ) → read_sheet s ≡ got o c → get_elem? o.sheet.clocks i ≡ none → P)
    → ((o : SheetRead) (c : ℕ) (k : Clock) → read_sheet s ≡ got o c → get_elem? o.sheet.clocks i ≡ some k → P) → P
by_case {P} s i refusal absent there = sheet (read_sheet s) refl
  where
    clock : (o : SheetRead) (c : ℕ) → read_sheet s ≡ got o c → (r : Option Clock) → get_elem? o.sheet.clocks i ≡ r → P
    clock o c h none e = absent o c h e
    clock o c h (some k) e = there o c k h e

    sheet : (r : Read SheetRead) → read_sheet s ≡ r → P
    sheet (got o c) h = clock o c h (get_elem? o.sheet.clocks i) refl
    sheet (refused number place) h = refusal number place h

module _ (s : List ℕ) (i : ℕ) where
  -- ---- quoting
  quoting_listed : (number place : ℕ) → quoting_of s i ≡ refused number place → QuoteRefused s i number place
  quoting_listed number place h =
      by_case s i
      (λ n p r. same_refused (QuoteRefused s i) (sym (quoting_refused s i n p r) ∙ h) (QuoteRefused.in_sheet (refused_listed s n p r)))
      (λ o c r e. same_refused (QuoteRefused s i) (sym (quoting_absent s i o c r e) ∙ h) (QuoteRefused.no_such_clock o (accepted_passed s o c r).0 (lookup_none o.sheet.clocks i e)))
      (λ o c k r e. refused_got (sym h ∙ quoting_there s i o c r k e))

  listed_quoting : {number place : ℕ} → QuoteRefused s i number place → quoting_of s i ≡ refused number place
  listed_quoting (QuoteRefused.in_sheet {number = number} {place = place} r) = quoting_refused s i number place (listed_refused s r)
  listed_quoting (QuoteRefused.no_such_clock o w h) = quoting_absent s i o (length s) (passed_accepted s o (length s) w refl) (lookup_past o.sheet.clocks i h)

  -- ---- closing
  closing_listed : (number place : ℕ) → closing_of s i ≡ refused number place → CloseRefused s i number place
  closing_listed number place h =
      by_case s i
      (λ n p r. same_refused (CloseRefused s i) (sym (closing_refused s i n p r) ∙ h) (CloseRefused.unquoted (QuoteRefused.in_sheet (refused_listed s n p r))))
      (λ o c r e. same_refused (CloseRefused s i) (sym (closing_absent s i o c r e) ∙ h) (CloseRefused.unquoted (QuoteRefused.no_such_clock o (accepted_passed s o c r).0 (lookup_none o.sheet.clocks i e))))
      (λ o c k r e. marked o c k r e (eqb k.state 1) refl)
    where
      marked : (o : SheetRead) (c : ℕ) (k : Clock) → read_sheet s ≡ got o c → get_elem? o.sheet.clocks i ≡ some k → (b : Bool) → eqb k.state 1 ≡ b → CloseRefused s i number place
      marked o c k r e true q =
          let shut : k.state ≡ 1 = eqb-true k.state 1 q in
          same_refused (CloseRefused s i) (sym (closing_already s i o c r k e shut) ∙ h) (CloseRefused.already o (accepted_passed s o c r).0 (k, e, shut))
      marked o c k r e false q = refused_got (sym h ∙ closing_open s i o c r k e (eqb-false k.state 1 q))

  listed_closing : {number place : ℕ} → CloseRefused s i number place → closing_of s i ≡ refused number place
  listed_closing (CloseRefused.unquoted (QuoteRefused.in_sheet {number = number} {place = place} r)) = closing_refused s i number place (listed_refused s r)
  listed_closing (CloseRefused.unquoted (QuoteRefused.no_such_clock o w h)) = closing_absent s i o (length s) (passed_accepted s o (length s) w refl) (lookup_past o.sheet.clocks i h)
  listed_closing (CloseRefused.already o w m) = closing_already s i o (length s) (passed_accepted s o (length s) w refl) m.0 m.1 m.2

  -- ---- as the replies have them
  quote_few : {n p : ℕ} → QuoteRefused s i n p → (1 ≤ n) × (n ≤ 17)
  quote_few (QuoteRefused.in_sheet {number = n} {place = p} r) = let t = one_to_ten s n p (listed_refused s r) in (t.0, omega (arith, t.1))
  quote_few (QuoteRefused.no_such_clock o w h) = (omega arith, omega arith)

  close_few : {n p : ℕ} → CloseRefused s i n p → (1 ≤ n) × (n ≤ 17)
  close_few (CloseRefused.unquoted q) = quote_few q
  close_few (CloseRefused.already o w m) = (omega arith, omega arith)

  pub quoting_exactly : (number place : ℕ) → RefusedWith (quote_reply (quoting_of s i)) number place ↔ QuoteRefused s i number place
  quoting_exactly number place =
      let few : (n p : ℕ) → quoting_of s i ≡ refused n p → (1 ≤ n) × (n ≤ 17) = (λ n p h. quote_few (quoting_listed n p h)) in
      let e = refused_as quote_reply (record { of_got = λ x c. tt; got_is = λ x c. refl; refused_is = λ n p. refl }) (quoting_of s i) few number place in
      (λ h. quoting_listed number place (e.0 h), λ h. e.1 (listed_quoting h))

  pub closing_exactly : (number place : ℕ) → RefusedWith (closing_reply (closing_of s i)) number place ↔ CloseRefused s i number place
  closing_exactly number place =
      let few : (n p : ℕ) → closing_of s i ≡ refused n p → (1 ≤ n) × (n ≤ 17) = (λ n p h. close_few (closing_listed n p h)) in
      let e = refused_as closing_reply (record { of_got = λ x c. x; got_is = λ x c. refl; refused_is = λ n p. refl }) (closing_of s i) few number place in
      (λ h. closing_listed number place (e.0 h), λ h. e.1 (listed_closing h))
