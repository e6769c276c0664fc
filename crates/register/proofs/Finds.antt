-- What reading a sheet and finding a clock in it tell: where the clock begins and ends, and what closing and quoting answer there. Assumes nothing.
use mathlib.Core.Path.{◌≡◌, refl, sym, ap, ◌∙◌, subst}
use mathlib.Core.Logic.{◌≢◌}
use mathlib.Core.List.{List, []}
use mathlib.Core.Option.{Option, none, some}
use Prim.Native.Nat.{ℕ, ◌+◌, ◌≤◌, ◌<◌}
use native.Mathlib.Omega.{arith}
use lib.ListN.{length, set, get_or, get_elem?}
use borrow.Author.Tests.{eq-eqb, ne_eqb}
use Rattle.std.specs.Prelude.{Result, Ok, Err}
use Rattle.reply.specs.Numbers.{already_closed}
use Rattle.reply.specs.declared.Cause.TheVariants.{AlreadyClosed}
use Rattle.reply.specs.declared.Refusal.{Refusal}
use Rattle.reply.specs.Refusal.{cause_number, refused_for}
use Rattle.reply.proofs.Causes.{same_refusal}
use Rattle.field.specs.Read.{Read, Read.got, Read.refused, mapped}
use Rattle.field.specs.Spelling.{AllBytes, Bytes}
use Rattle.field.proofs.Read.{through, refused_got, mapped_got, mapped_refused}
use Rattle.field.proofs.Spelling.{end}
use Rattle.expression.specs.Expression.{Clock, spell_clock}
use Rattle.sheet.specs.Reader.{read_sheet}
use Rattle.sheet.specs.SheetRead.{SheetRead}
use Rattle.sheet.proofs.Spelling.Rows.{same_got}
use Rattle.sheet.proofs.Spelling.Sheets.{Opens, sheet_reads}
use Rattle.sheet.specs.Locating.{Located, place_of, listed_clock, located_in}
use Rattle.register.specs.Closing.{closing_of, closing_reply, closed_bytes, Closes}
use Rattle.register.specs.Quoting.{quoting_of, quoted_from, quoted_part, Quotes, RepliesTo}
use Rattle.sheet.proofs.Spelling.Places.{clock_bytes, state_byte}

-- ---- the contracts, by what closing and quoting come to
pub closes_by : {s t : List ℕ} {i : ℕ} {r : Result ℕ Refusal} {x : Read ℕ} → closing_of s i ≡ x → r ≡ closing_reply x → t ≡ closed_bytes x s → Closes s i r t
closes_by e p q = record { reply_is = rw e p; bytes_are = rw e q }

pub quotes_by : {s part : List ℕ} {i : ℕ} {at from : ℕ × ℕ} {x : Read ℕ} → quoting_of s i ≡ x → part ≡ quoted_part x s → from.0 ≡ at.0 → from.1 ≡ quoted_from x + at.1
    → Quotes s i at part from
quotes_by e p q r = record { part_is = rw e p; same_memory = q; begins = rw e r }

-- ---- a clock that was found
record Finds (s : List ℕ) (i : ℕ) (at to : ℕ) : Type 0 where
  clock : Clock
  located : located_in s i ≡ got (record { clock = clock; place = at }) to
  bytes : Bytes s at (spell_clock clock) to

located_bytes : (s : List ℕ) (i : ℕ) → AllBytes s → (x : Located) (to : ℕ) → located_in s i ≡ got x to → Bytes s x.place (spell_clock x.clock) to
unfolding located_in
located_bytes s i bytes x to h =
    let w = through (read_sheet s) _ x to h in
    go w.0 (sheet_reads s bytes w.0 w.1 w.2) (get_elem? w.0.sheet.clocks i) refl w.3
  where
    go : (o : SheetRead) {c : ℕ} → Opens s o c → (r : Option Clock) → get_elem? o.sheet.clocks i ≡ r → listed_clock o.sheet i r ≡ got x to → Bytes s x.place (spell_clock x.clock) to
    go o p none e q = refused_got q
    go o p (some k) e q = same_got (λ (y : Located) (d : ℕ). Bytes s y.place (spell_clock y.clock) d) q (rw p.bytes (clock_bytes o.sheet i k e))

-- ---- a refusal
module _ (s : List ℕ) (i : ℕ) (e : Refusal) (told : refused (cause_number e.cause) e.place ≡ mapped place_of (located_in s i)) where
  found_refused : located_in s i ≡ refused (cause_number e.cause) e.place
  found_refused = mapped_refused place_of (located_in s i) (cause_number e.cause) e.place (sym told)

  pub close_refused : Closes s i (Err e) s
  unfolding closing_of
  close_refused = record { reply_is = rw found_refused (ap Err (sym (same_refusal e))); bytes_are = rw found_refused }

  pub quote_refused : quoting_of s i ≡ refused (cause_number e.cause) e.place
  unfolding quoting_of
  quote_refused = rw found_refused

  pub quotes_none : (at : ℕ × ℕ) → Quotes s i at [] at
  quotes_none at = quotes_by {at = at} {from = at} quote_refused refl refl (omega arith)

  pub replies_refused : RepliesTo s i (Err e)
  replies_refused = record { reply_is = rw quote_refused (ap Err (sym (same_refusal e))) }

-- ---- or where the clock stands
module _ (s : List ℕ) (i : ℕ) (bytes : AllBytes s) (at to : ℕ) (told : got at to ≡ mapped place_of (located_in s i)) where
  found : Finds s i at to
  found =
      let m = mapped_got place_of (located_in s i) at to (sym told) in
      record {
        clock = m.0.clock;
        located = m.1 ∙ ap (λ (p : ℕ). got (record { clock = m.0.clock; place = p }) to) m.2;
        bytes = subst (λ (p : ℕ). Bytes s p (spell_clock m.0.clock) to) m.2 (located_bytes s i bytes m.0 to m.1);
      }

  pub at_within : at < length s
  at_within = omega (arith, end found.bytes)

  pub close_already : get_or s at 0 ≡ 1 → Closes s i (refused_for AlreadyClosed 0) s
  unfolding closing_of
  close_already h =
      let k = found in
      let is : closing_of s i ≡ refused already_closed 0 = rw (k.located, eq-eqb k.clock.state 1 (sym (state_byte k.clock k.bytes) ∙ h)) in
      closes_by is (ap Err (sym (same_refusal (record { cause = AlreadyClosed; place = 0 })))) refl

  pub close_open : get_or s at 0 ≢ 1 → Closes s i (Ok at) (set s at 1)
  unfolding closing_of
  close_open h =
      let k = found in
      let is : closing_of s i ≡ got at (at + 1) = rw (k.located, ne_eqb k.clock.state 1 λ e. h (state_byte k.clock k.bytes ∙ e)) in
      closes_by is refl refl

  pub quote_there : quoting_of s i ≡ got (at + 1) to
  unfolding quoting_of
  quote_there = rw found.located

  pub quote_within : (at + 1 ≤ to) × (to ≤ length s)
  quote_within =
      let k = found in
      (omega (arith, end k.bytes), (end k.bytes).1)

  pub replies_there : RepliesTo s i (Ok tt)
  replies_there = record { reply_is = rw quote_there }
