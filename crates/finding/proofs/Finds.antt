-- What reading a sheet and finding a clock in it tell: where the clock begins and ends. Assumes nothing.
use mathlib.Core.Path.{◌≡◌, sym, ap, ◌∙◌}
use mathlib.Core.List.{List}
use Prim.Native.Nat.{ℕ, zero, suc, ◌+◌, ◌≤◌, ◌<◌}
use native.Mathlib.Numerals.{add-one}
use native.Mathlib.Omega.{arith}
use lib.ListN.{length, get_elem?}
use Rattle.std.specs.Prelude.{Ok, Err}
use Rattle.reply.specs.Numbers.{no_clock}
use Rattle.reply.specs.declared.Refusal.{Refusal}
use Rattle.reply.specs.Refusal.{cause_number}
use Rattle.reply.specs.Inner.Causes.{refusal}
use Rattle.reply.proofs.Causes.{number_back}
use Rattle.field.specs.Read.{Read, Read.got, Read.refused, bind, mapped}
use Rattle.field.specs.Spelling.{AllBytes}
use Rattle.expression.specs.Expression.{spell_word}
use Rattle.expression.specs.Inner.Skipping.{HasExpr}
use Rattle.expression.proofs.Lookup.{lookup_there, lookup_past}
use Rattle.reading.specs.declared.Found.{Found}
use Rattle.sheet.specs.Sheet.{rows, section}
use Rattle.sheet.specs.Reader.{read_sheet}
use Rattle.sheet.specs.SheetRead.{SheetRead}
use Rattle.reading.specs.Inner.Sections.{found_of, reading_of}
use Rattle.reading.proofs.Answered.{reading_got, reading_refused}
use Rattle.sheet.proofs.Refusing.Numbers.{one_to_ten}
use Rattle.sheet.proofs.Spelling.Sheets.{sheet_reads}
use Rattle.sheet.specs.Locating.{clock_place, place_of, listed_clock, located_in}
use Rattle.finding.specs.Inner.Skipping.{HasClocks}
use Rattle.sheet.proofs.Spelling.Places.{next_place}
use Rattle.finding.proofs.Skips.{clock_expr}

-- the sheet that was read has a clock i, and its clocks begin at `first`
pub record Chosen (s : List ℕ) (first i : ℕ) : Type 0 where
  pub opened : SheetRead
  pub past : ℕ
  pub reads : read_sheet s ≡ got opened past
  pub clocks : HasClocks s first (i + 1) opened.sheet

-- ---- by what the code's reader answered: a refusal
pub find_refused : (s : List ℕ) (e : Refusal) → reading_of (read_sheet s) ≡ Err e → (i : ℕ) → refused (cause_number e.cause) e.place ≡ mapped place_of (located_in s i)
unfolding located_in
find_refused s e told i =
    let r = reading_refused (read_sheet s) e told in
    let few = one_to_ten s r.0 r.1 r.2 in
    let n : cause_number e.cause ≡ r.0 = ap (λ (x : Refusal). cause_number x.cause) (sym r.3) ∙ number_back r.0 few.0 (omega (arith, few.1)) in
    let p : e.place ≡ r.1 = ap (λ (x : Refusal). x.place) (sym r.3) in
    rw r.2 (λ i. refused (n i) (p i))

-- or what was found
module _ (s : List ℕ) (bytes : AllBytes s) (f : Found) (told : reading_of (read_sheet s) ≡ Ok f) where
  found : (o : SheetRead) × (c : ℕ) × (read_sheet s ≡ got o c) × (found_of o ≡ f)
  found = reading_got (read_sheet s) f told

  pub find_absent : (i : ℕ) → f.clocks ≤ i → refused no_clock 0 ≡ mapped place_of (located_in s i)
  unfolding located_in
  find_absent i few =
      let w = found in
      let o = sheet_reads s bytes w.0 w.1 w.2 in
      let n : f.clocks ≡ length w.0.table = ap (λ (x : Found). x.clocks) (sym w.3) in
      rw (w.2, lookup_past w.0.sheet.clocks i (omega (arith, o.worked.many)))

  pub find_chosen : (i : ℕ) → i < f.clocks → Chosen s f.clockrows i
  unfolding clock_place rows
  find_chosen i lt =
      let w = found in
      let o = sheet_reads s bytes w.0 w.1 w.2 in
      let n : f.clocks ≡ length w.0.table = ap (λ (x : Found). x.clocks) (sym w.3) in
      let b : f.clockrows ≡ length (section spell_word w.0.sheet.words) + 2 = ap (λ (x : Found). x.clockrows) (sym w.3) in
      record {
        opened = w.0;
        past = w.1;
        reads = w.2;
        clocks = record { text = o.bytes; begins = b; many = omega (arith, o.worked.many) };
      }

module _ {s : List ℕ} {first i : ℕ} (chosen : Chosen s first i) where
  -- the clocks before it
  pub before_it : HasClocks s first i chosen.opened.sheet
  before_it = record { text = chosen.clocks.text; begins = chosen.clocks.begins; many = omega (arith, chosen.clocks.many) }

  -- behind its state stands its expression
  pub behind_state : (at : ℕ) → at ≡ clock_place chosen.opened.sheet i → HasExpr s (at + 1) (clock_place chosen.opened.sheet (i + 1))
  behind_state at e = clock_expr chosen.clocks i at e (omega arith)

  pub find_there : (at to : ℕ) → at ≡ clock_place chosen.opened.sheet i → to ≡ clock_place chosen.opened.sheet (i + 1) → got at to ≡ mapped place_of (located_in s i)
  unfolding located_in
  find_there at to e f =
      let k = lookup_there chosen.opened.sheet.clocks i (omega (arith, chosen.clocks.many)) in
      rw (chosen.reads, k.1, e, f, add-one i, ← next_place chosen.opened.sheet i k.0 k.1)
