-- The promises on the listing are kept. Assumes nothing.
use mathlib.Core.Path.{◌≡◌, refl, ap, ◌∙◌}
use mathlib.Core.List.{List}
use Prim.Native.Nat.{ℕ, ◌*◌}
use lib.Dec.{leb}
use lib.IntN.{ℤ}
use lib.ListN.{length, length-map}
use lib.Seq.{take_at}
use Rattle.reply.specs.Numbers.{short_result}
use Rattle.field.specs.Read.{Read.got, Read.refused}
use Rattle.field.proofs.Read.{through, cond_left}
use Rattle.sheet.specs.Reader.{read_sheet}
use Rattle.sheet.specs.SheetRead.{SheetRead}
use Rattle.sizing.specs.Rooms.{row_of, rows_of, open_room, whole_room}
use Rattle.sizing.specs.WorkOut.{worked_of, totals_of, clock_numbers, link_numbers, flatten}
use Rattle.sizing.proofs.Written.{flatten_length}
use Rattle.report.specs.Listing.{refused_line, whole_text, text_of, listing_of}
use Rattle.report.proofs.Bound.{listing_within}
use Rattle.report.specs.Promise.{sheet_lines, Shows, Listing}

module _ (s : List ℕ) where
  accepted : (o : SheetRead) (c : ℕ) → read_sheet s ≡ got o c → listing_of s ≡ sheet_lines o (open_room o) (whole_room o)
  unfolding listing_of whole_text open_room whole_room
  accepted o c e = ap text_of e

  -- a sheet that is worked out was read
  was_read : (A B : ℕ) (o : SheetRead) (c : ℕ) → worked_of s A B ≡ got o c → read_sheet s ≡ got o c
  unfolding worked_of
  was_read A B o c h =
      let r = through (read_sheet s) _ o c h in
      let p = cond_left (leb (4 * length r.0.table) A) _ short_result 0 o c r.3 in
      let q = cond_left (leb (3 * length r.0.sheet.links) B) _ short_result 0 o c p.1 in
      r.2 ∙ q.1

  shows : (clocks links : List ℤ) (o : SheetRead) (c : ℕ) → read_sheet s ≡ got o c → Shows s o (got o c) clocks links
  shows clocks links o c e =
      record {
        totals = totals_of o;
        told = refl;
        text = accepted o c e;
        clocks_are = take_at (flatten clock_numbers o.table) _ (4 * length o.table) (flatten_length clock_numbers 4 (λ x. refl) o.table);
        links_are =
            take_at (flatten link_numbers (rows_of o)) _ (3 * length o.sheet.links)
            (flatten_length link_numbers 3 (λ r. refl) (rows_of o) ∙ ap (λ (n : ℕ). 3 * n) (length-map o.sheet.links (row_of o)));
      }

  refused_only : (number place : ℕ) → read_sheet s ≡ refused number place → listing_of s ≡ refused_line number place
  unfolding listing_of
  refused_only number place e = ap text_of e

  pub listing : Listing s
  listing =
      record {
        accepted = accepted;
        worked_out = λ clocks links o c h. rw h (shows clocks links o c (was_read (length clocks) (length links) o c h));
        most = listing_within s;
        refused_only = refused_only;
      }
