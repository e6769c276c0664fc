-- A quoted part: what is answered and left where it is empty, where it fits the buffer and where it doesn't. Assumes nothing.
use mathlib.Core.Path.{◌≡◌, refl, ap, ◌∙◌}
use mathlib.Core.Logic.{◌≢◌}
use mathlib.Core.List.{List}
use Prim.Native.Nat.{ℕ, ◌≤◌}
use native.Mathlib.Omega.{arith}
use lib.ListN.{length}
use borrow.Author.Tests.{le-leb}
use Rattle.field.specs.Read.{Read, Read.got, Read.refused}
use Rattle.std.specs.Prelude.{Ok}
use Rattle.register.specs.Quoting.{quoting_of, quoted_part, quote_reply, Quotes, RepliesTo}
use Rattle.line.specs.Text.{Out, top, put, Put}
use Rattle.line.proofs.Puts.{put_at, put_fits}
use Rattle.export.specs.Flat.{list_written}
use Rattle.export.specs.Promise.{Copies}

-- a part that is not empty is no refusal's
reply_quoted : (x : Read ℕ) (s p : List ℕ) → p ≡ quoted_part x s → length p ≢ 0 → Ok tt ≡ quote_reply x
reply_quoted (got from to) s p p_is h = refl
reply_quoted (refused number place) s p p_is h = absurd (h (ap length p_is))

-- where the part p lies at `from` in the sheet's memory
module _ {s : List ℕ} {i : ℕ} {at : ℕ × ℕ} {p : List ℕ} {from : ℕ × ℕ} (quoted : Quotes s i at p from) where
  pub some_quoted : length p ≢ 0 → RepliesTo s i (Ok tt)
  some_quoted h = record { reply_is = reply_quoted (quoting_of s i) s p quoted.part_is h }

  pub copies_fits : RepliesTo s i (Ok tt) → (out : List ℕ) → length out ≤ top → length p ≤ length out → (out' : List ℕ) (n : ℕ) → Put out 0 p out' n
      → Copies s i at out (list_written (Ok n)) out'
  copies_fits replied out room h out' n put =
      let past : n ≡ length p = omega (arith, put_at out out' p 0 n (omega arith) put) in
      record {
        part = p;
        from = from;
        answer = Ok tt;
        quoted = quoted;
        replied = replied;
        reply_is = rw (le-leb (length p) (length out) h) (ap (λ (m : ℕ). list_written (Ok m)) past);
        out_is = rw (le-leb (length p) (length out) h) (ap (λ (o : Out). o.bytes) put ∙ put_fits out 0 p (omega arith) room);
      }
