-- The texts: what is answered and left where one fits the buffer and where it doesn't, and that the parts make up the listing. Assumes nothing.
use mathlib.Core.Path.{◌≡◌, refl, sym, ap, ◌∙◌, subst}
use mathlib.Core.Bool.{true, false}
use mathlib.Core.List.{List}
use Prim.Native.Nat.{ℕ, ◌≤◌, ◌<◌}
use native.Mathlib.Omega.{arith}
use lib.ListN.{length}
use lib.Dec.{leb}
use borrow.Author.Tests.{leb-true, le-leb}
use Rattle.field.specs.Read.{Read.got}
use Rattle.envelope.specs.declared.Node.{Node}
use Rattle.link.specs.declared.Row.{Row}
use Rattle.reading.specs.declared.Found.{Found}
use Rattle.sizing.specs.declared.Rooms.{Rooms}
use Rattle.sheet.specs.Sheet.{Link}
use Rattle.sheet.specs.Reader.{read_sheet}
use Rattle.sheet.specs.SheetRead.{SheetRead}
use Rattle.reading.specs.Inner.Sections.{reading_of}
use Rattle.reading.proofs.Answered.{reading_got, reading_refused}
use Rattle.sizing.specs.Inner.Rows.{FoundIn, InTables}
use Rattle.sizing.proofs.Outcome.{rows_are}
use Rattle.line.specs.Text.{Out, top, put, put_line, Put}
use Rattle.line.specs.declared.Writer.{Writer}
use Rattle.line.specs.Writing.{out_in}
use Rattle.line.proofs.Puts.{put_then, put_line_lem, put_at, put_fits}
use Rattle.reply.specs.declared.Cause.TheVariants.{ShortResult}
use Rattle.reply.specs.declared.Refusal.{Refusal}
use Rattle.reply.specs.Refusal.{refused_for}
use Rattle.reply.proofs.Causes.{same_refusal}
use Rattle.std.specs.Prelude.{Result, Ok, Err}
use Rattle.line.specs.Letters.{letters}
use Rattle.report.specs.Listing.{room_fields, clock_lines, whole_text, sheet_text, listing_most, fitted_text, over, listed_of, text_after, ListsInto}
use Rattle.report.specs.Inner.Parts.{LinksPut, table_text}
use Rattle.report.proofs.Bound.{listing_within}

-- ---- a text that is no longer than the longest, put into a buffer
module _ (t : List ℕ) (most : length t ≤ listing_most) where
  pub most_enough : (room : ℕ) → listing_most ≤ room → true ≡ leb (length t) room
  most_enough room h = sym (le-leb (length t) room (omega (arith, most)))

  -- past it, whatever the buffer
  pub measured : (xs xs' : List ℕ) (r : ℕ) → Put xs 0 t xs' r → r ≡ length t
  measured xs xs' r p = put_at xs xs' t 0 r (omega arith) p ∙ omega arith

  pub text_fits : (text : List ℕ) → length text < top → leb (length t) (length text) ≡ true → (text' : List ℕ) (r : ℕ) → Put text 0 t text' r
      → (Ok r ≡ fitted_text t (length text)) × (text' ≡ over t text)
  text_fits text short h text' r p =
      rw h
      (ap Ok (measured text text' r p), ap (λ (o : Out). o.bytes) p ∙ put_fits text 0 t (omega (arith, leb-true (length t) (length text) h)) (omega arith))

pub text_short : (t text : List ℕ) → leb (length t) (length text) ≡ false → (refused_for ShortResult 0 ≡ fitted_text t (length text)) × (text ≡ over t text)
text_short t text h = rw h (ap Err (sym (same_refusal (record { cause = ShortResult; place = 0 }))), refl)

-- ---- the text of a whole sheet, part by part
pub whole_put : (ss : List ℕ) (xs : List Node) (rs : List Row) (o p : Out) (w w' : Writer) (rooms : Rooms) → out_in w ≡ put o (clock_lines 0 ss xs) → LinksPut w rs w' rooms
    → p ≡ put_line (out_in w') (letters "room") (room_fields rooms.opened rooms.whole)
    → p ≡ put o (whole_text ss xs rs)
unfolding whole_text
whole_put ss xs rs o p w w' rooms cs q r =
    let line = ap (λ (x : Rooms). put_line (out_in w') (letters "room") (room_fields x.opened x.whole)) q.sums in
    rw (put_then, ← cs, put_then, ← q.lines.put, ← put_line_lem) (r ∙ line)

-- ---- the listing, by what the reader of a whole sheet answered and left
module _ (s : List ℕ) where
  pub listed_refused : (text : List ℕ) (e : Refusal) → reading_of (read_sheet s) ≡ Err e → ListsInto s text (Err e) text
  unfolding listed_of text_after
  listed_refused text e h =
      let r = reading_refused (read_sheet s) e h in
      record { answer_is = rw (r.2, r.3); text_is = rw r.2 }

  -- where the tables show the sheet, theirs is its text
  module _ {f : Found} {t : List Node} {ss : List ℕ} {es : List Link} (h : FoundIn s f t ss es) (t' : List Node) (ss' : List ℕ) (es' : List Link) (shown : (o : SheetRead) (c : ℕ) → read_sheet s ≡ got o c → InTables o t' ss' es') where
    text_is : (o : SheetRead) × (c : ℕ) × (read_sheet s ≡ got o c) × (table_text t' ss' es' ≡ sheet_text o)
    text_is =
        let w = reading_got (read_sheet s) f h.told in
        let d = shown w.0 w.1 w.2 in
        (w.0, w.1, w.2, rw (d.links, d.nodes, d.states, rows_are w.0 w.0.sheet.links) refl)

    pub text_most : length (table_text t' ss' es') ≤ listing_most
    text_most = let w = text_is in subst (λ (x : List ℕ). length x ≤ listing_most) (sym w.3) (listing_within s h.bytes w.0 w.1 w.2)

    pub listed_good : (text text' : List ℕ) (r : Result ℕ Refusal) → r ≡ fitted_text (table_text t' ss' es') (length text) → text' ≡ over (table_text t' ss' es') text → ListsInto s text r text'
    unfolding listed_of text_after
    listed_good text text' r p q =
        let w = text_is in
        record {
          answer_is = rw w.2 (p ∙ ap (λ (x : List ℕ). fitted_text x (length text)) w.3);
          text_is = rw w.2 (q ∙ ap (λ (x : List ℕ). over x text) w.3);
        }
