-- What is given of a clock when the sheet is worked out with room for every sheet. Assumes nothing.
use mathlib.Core.Path.{◌≡◌, refl, sym, ap, ap₂, ◌∙◌}
use mathlib.Core.List.{List, [], ◌∷◌, ◌++◌}
use mathlib.Core.Option.{Option, some, none}
use Prim.Native.Nat.{ℕ, zero, suc, ◌+◌, ◌*◌, ◌≤◌, ◌<◌}
use native.Mathlib.Omega.{arith}
use lib.IntN.{ℤ, pos, nat_abs}
use lib.ListN.{length, drop, get_or, get_elem?}
use borrow.Author.Tests.{le-leb}
use Rattle.std.specs.Prelude.{Result, Ok, Err}
use Rattle.reply.specs.declared.Cause.{Cause}
use Rattle.reply.specs.declared.Cause.TheVariants.{NoClock}
use Rattle.reply.specs.declared.Refusal.{Refusal}
use Rattle.reply.specs.Refusal.{refused_for}
use Rattle.reply.specs.Inner.Causes.{refusal}
use Rattle.reply.proofs.Causes.{cause_with_number}
use Rattle.field.specs.Read.{Read, Read.got, Read.refused, bind}
use Rattle.field.specs.Spelling.{AllBytes}
use Rattle.envelope.specs.declared.Envelope.{Envelope}
use Rattle.envelope.specs.declared.Node.{Node}
use Rattle.expression.proofs.Lookup.{lookup_there, lookup_below}
use Rattle.sheet.specs.Reader.{read_sheet}
use Rattle.sheet.specs.SheetRead.{SheetRead}
use Rattle.sheet.proofs.Spelling.Sheets.{Opens, sheet_reads}
use Rattle.sizing.specs.declared.Totals.{Totals}
use Rattle.sizing.specs.WorkOut.{room_for, worked_of, reply_of, clock_numbers, flatten, clocks_out, WorksOut}
use Rattle.asking.specs.Envelopes.{envelope_in, envelope_at, envelope_of, numbers_from}

-- ---- the four numbers of clock i
numbers_there : (xs : List Node) (i : ℕ) (x : Node) (tail : List ℤ) → get_elem? xs i ≡ some x
    → (get_or (flatten clock_numbers xs ++ tail) (4 * i) (pos 0) ≡ x.envelope.k)
    × (get_or (flatten clock_numbers xs ++ tail) (4 * i + 1) (pos 0) ≡ x.envelope.K)
    × (get_or (flatten clock_numbers xs ++ tail) (4 * i + 2) (pos 0) ≡ pos x.envelope.l)
    × (get_or (flatten clock_numbers xs ++ tail) (4 * i + 3) (pos 0) ≡ pos x.envelope.n)
unfolding flatten
numbers_there [] i x tail e = absurd (cc)
numbers_there (y ∷ xs) zero x tail e = let is : y ≡ x = cc in
    rw is (refl, refl, refl, refl)
numbers_there (y ∷ xs) (suc i) x tail e =
    let before = numbers_there xs i x tail e in
    let k : 4 * suc i ≡ suc (suc (suc (suc (4 * i)))) = omega arith in
    let K : 4 * suc i + 1 ≡ suc (suc (suc (suc (4 * i + 1)))) = omega arith in
    let l : 4 * suc i + 2 ≡ suc (suc (suc (suc (4 * i + 2)))) = omega arith in
    let n : 4 * suc i + 3 ≡ suc (suc (suc (suc (4 * i + 3)))) = omega arith in
    (rw k before.0, rw K before.1, rw l before.2, rw n before.3)

envelope_there : (xs : List Node) (i : ℕ) (x : Node) (tail : List ℤ) → get_elem? xs i ≡ some x → numbers_from (flatten clock_numbers xs ++ tail) (4 * i) ≡ x.envelope
envelope_there xs i x tail e = let w = numbers_there xs i x tail e in
    λ j. record { k = w.0 j; K = w.1 j; l = nat_abs (w.2 j); n = nat_abs (w.3 j) }

module _ (s : List ℕ) (bytes : AllBytes s) where
  -- ---- there is room for every sheet
  room : (X : Read SheetRead) → read_sheet s ≡ X → bind X (room_for 512 768) ≡ X
  room (got o c) e =
      let q : Opens s o c = sheet_reads s bytes o c e in
      rw (le-leb (4 * length o.table) 512 (omega (arith, q.legal.clocks_within, q.worked.many)), le-leb (3 * length o.sheet.links) 768 (omega (arith, q.legal.links_within))) refl
  room (refused number place) e = refl

  worked_is : worked_of s 512 768 ≡ read_sheet s
  unfolding worked_of
  worked_is = room (read_sheet s) refl

  -- ---- what is answered, where the sheet was worked out so
  module _ (i : ℕ) (clocks links : List ℤ) (room_is : length clocks ≡ 512) (room_too : length links ≡ 768) (r : Result Totals Refusal) (clocks_end links_end : List ℤ)
      (h : WorksOut s clocks links r clocks_end links_end) where
    read_is : worked_of s (length clocks) (length links) ≡ read_sheet s
    read_is = ap₂ (worked_of s) room_is room_too ∙ worked_is

    reply : r ≡ reply_of (read_sheet s)
    reply = h.reply_is ∙ ap reply_of read_is

    left : clocks_end ≡ clocks_out (read_sheet s) clocks
    left = h.clocks_are ∙ ap (λ (X : Read SheetRead). clocks_out X clocks) read_is

    -- a refusal is handed on
    pub refused_too : (e : Refusal) → r ≡ Err e → ◌≡◌ {A = Result Envelope Refusal} (Err e) (envelope_of s i)
    refused_too e z = go (read_sheet s) (sym z ∙ reply)
      where
        go : (X : Read SheetRead) → ◌≡◌ {A = Result Totals Refusal} (Err e) (reply_of X) → ◌≡◌ {A = Result Envelope Refusal} (Err e) (envelope_at X i)
        go (got o c) q = absurd (cc)
        go (refused number place) q = let is : e ≡ refusal number place = cc in
            ap Err is

    -- or there are so many clocks
    read_so : (t : Totals) → r ≡ Ok t → (o : SheetRead) × (c : ℕ) × (read_sheet s ≡ got o c) × (length o.table ≡ t.clocks)
    read_so t z = go (read_sheet s) refl (sym z ∙ reply)
      where
        go : (X : Read SheetRead) → read_sheet s ≡ X → ◌≡◌ {A = Result Totals Refusal} (Ok t) (reply_of X) → (o : SheetRead) × (c : ℕ) × (read_sheet s ≡ got o c) × (length o.table ≡ t.clocks)
        go (got o c) e q = (o, c, e, cc)
        go (refused number place) e q = absurd (cc)

    pub absent_too : (t : Totals) → r ≡ Ok t → t.clocks ≤ i → ◌≡◌ {A = Result Envelope Refusal} (refused_for NoClock 0) (envelope_of s i)
    absent_too t z few = let w = read_so t z in
        rw w.2 (go (get_elem? w.0.table i) refl)
      where
        go : (x : Option Node) → get_elem? (read_so t z).0.table i ≡ x → ◌≡◌ {A = Result Envelope Refusal} (refused_for NoClock 0) (envelope_in x)
        go none e = ap (λ (k : Cause). Err (record { cause = k; place = 0 })) (sym (cause_with_number NoClock))
        go (some x) e = absurd (omega (arith, lookup_below (read_so t z).0.table i x e, (read_so t z).3, few))

    pub there_too : (t : Totals) → r ≡ Ok t → i < t.clocks → (4 * i + 4 ≤ 512) × (Ok (numbers_from clocks_end (4 * i)) ≡ envelope_of s i)
    there_too t z below =
        let w = read_so t z in
        let q : Opens s w.0 w.1 = sheet_reads s bytes w.0 w.1 w.2 in
        let x = lookup_there w.0.table i (omega (arith, w.3, below)) in
        let is : clocks_end ≡ flatten clock_numbers w.0.table ++ drop (4 * length w.0.table) clocks = left ∙ ap (λ (X : Read SheetRead). clocks_out X clocks) w.2 in
        let there : envelope_of s i ≡ Ok x.0.envelope = ap (λ (X : Read SheetRead). envelope_at X i) w.2 ∙ ap envelope_in x.1 in (
          omega (arith, q.legal.clocks_within, q.worked.many, w.3, below),
          ap (λ (t : List ℤ). Ok (numbers_from t (4 * i))) is ∙ ap Ok (envelope_there w.0.table i x.0 _ x.1) ∙ sym there,
        )
