-- Each refusal of listing is given exactly when the table says, at its place. Assumes nothing.
use mathlib.Core.Path.{◌≡◌, refl, sym, ◌∙◌}
use mathlib.Core.Logic.{◌↔◌}
use mathlib.Core.Bool.{Bool, true, false, cond}
use mathlib.Core.List.{List}
use Prim.Native.Nat.{ℕ}
use lib.Dec.{leb}
use lib.ListN.{length}
use borrow.Author.Tests.{leb-false, lt-leb}
use Rattle.reply.specs.Numbers.{short_result}
use Rattle.field.specs.Read.{Read, Read.got, Read.refused}
use Rattle.sheet.specs.Reader.{read_sheet}
use Rattle.sheet.specs.SheetRead.{SheetRead}
use Rattle.sheet.specs.Format.{Passed}
use Rattle.sheet.proofs.Refusing.Format.{refused_listed, listed_refused, accepted_passed, passed_accepted}
use Rattle.sheet.proofs.Refusing.Numbers.{one_to_ten}
use Rattle.std.specs.Prelude.{Ok, Err}
use Rattle.reply.specs.Refusal.{cause_number, RefusedWith}
use Rattle.reply.specs.Inner.Causes.{cause_with, refusal}
use Rattle.reply.proofs.Causes.{number_back}
use native.Mathlib.Omega.{arith}
use Rattle.report.specs.Listing.{sheet_text, listed_in, listed_of}
use Rattle.report.specs.Table.{ListRefused}

module _ (s : List ℕ) (room : ℕ) (number place : ℕ) where
  same : {m k : ℕ} → m ≡ number → k ≡ place → ListRefused s room m k → ListRefused s room number place
  same a b h = rw (← a, ← b) h

  -- a sheet's refusal keeps its number
  kept : (m k : ℕ) → read_sheet s ≡ refused m k → cause_number (cause_with m) ≡ m
  kept m k e = let t = one_to_ten s m k e in number_back m t.0 (omega (arith, t.1))

  listing_listed : RefusedWith (listed_of s room) number place → ListRefused s room number place
  unfolding listed_of
  listing_listed h = by (read_sheet s) refl h
    where
      fits : (o : SheetRead) → Passed s o → (b : Bool) → leb (length (sheet_text o)) room ≡ b → RefusedWith (cond b (Ok (length (sheet_text o))) (Err (refusal short_result 0))) number place → ListRefused s room number place
      fits o w true e h = absurd h
      fits o w false e h = same (sym (number_back short_result (omega arith) (omega arith)) ∙ h.0) h.1 (ListRefused.too_short o w (leb-false (length (sheet_text o)) room e))

      by : (r : Read SheetRead) → read_sheet s ≡ r → RefusedWith (listed_in r room) number place → ListRefused s room number place
      by (got o c) e h = fits o (accepted_passed s o c e).0 (leb (length (sheet_text o)) room) refl h
      by (refused m k) e h = same (sym (kept m k e) ∙ h.0) h.1 (ListRefused.in_sheet (refused_listed s m k e))

listed_listing : (s : List ℕ) (room : ℕ) {number place : ℕ} → ListRefused s room number place → RefusedWith (listed_of s room) number place
unfolding listed_of
listed_listing s room {number} {place} (ListRefused.in_sheet r) = rw (listed_refused s r) (kept s room number place number place (listed_refused s r), refl)
listed_listing s room (ListRefused.too_short o w h) =
    rw (passed_accepted s o (length s) w refl, lt-leb (length (sheet_text o)) room h) (number_back short_result (omega arith) (omega arith), refl)

pub listing_exactly : (s : List ℕ) (room number place : ℕ) → RefusedWith (listed_of s room) number place ↔ ListRefused s room number place
listing_exactly s room number place = (listing_listed s room number place, listed_listing s room)
