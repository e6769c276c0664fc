-- Quoting from the bytes: each answer, and that the part is the spelling of the clock's expression. Assumes nothing.
use mathlib.Core.Path.{◌≡◌, sym, ap, ◌∙◌}
use mathlib.Core.List.{List, [], ◌∷◌}
use mathlib.Core.Option.{none, some}
use Prim.Native.Nat.{ℕ, suc, ◌+◌, ◌-◌, ◌<◌}
use native.Mathlib.Numerals.{add-one}
use native.Mathlib.Omega.{arith}
use lib.ListN.{length, take, drop, get_elem?, length-append}
use Rattle.reply.specs.Numbers.{no_clock}
use Rattle.field.specs.Read.{Read, Read.got, Read.refused}
use Rattle.field.specs.Spelling.{Bytes}
use Rattle.field.proofs.Spelling.{part}
use Rattle.expression.specs.Expression.{Clock, spell, spell_clock}
use Rattle.expression.proofs.Lookup.{lookup_below}
use Rattle.expression.proofs.Tags.{has_tag}
use Rattle.sheet.specs.Reader.{read_sheet}
use Rattle.sheet.specs.SheetRead.{SheetRead}
use Rattle.sheet.proofs.Spelling.Sheets.{Opens}
use Rattle.sheet.specs.Locating.{clock_place, located_in}
use Rattle.register.specs.Quoting.{quoting_of, quoted_from, quoted_part}
use Rattle.register.specs.Promise.{Quoted}
use Rattle.sheet.proofs.Spelling.Places.{clock_bytes, expr_bytes, next_place, clock_at_lem}
use Rattle.register.proofs.Sheets.{opens_read}

pub quoting_refused : (s : List ℕ) (i number place : ℕ) → read_sheet s ≡ refused number place → quoting_of s i ≡ refused number place
unfolding quoting_of located_in
quoting_refused s i number place h = rw h

module _ (s : List ℕ) (i : ℕ) (o : SheetRead) (c : ℕ) (read : read_sheet s ≡ got o c) where
  pub quoting_absent : get_elem? o.sheet.clocks i ≡ none → quoting_of s i ≡ refused no_clock 0
  unfolding quoting_of located_in
  quoting_absent e = rw (read, e)

  pub quoting_there : (k : Clock) → get_elem? o.sheet.clocks i ≡ some k → quoting_of s i ≡ got (clock_place o.sheet i + 1) (clock_place o.sheet i + length (spell_clock k))
  unfolding quoting_of located_in
  quoting_there k e = rw (read, e)

module _ (s : List ℕ) (i : ℕ) (o : SheetRead) (c : ℕ) (opens : Opens s o c) (k : Clock) (e : get_elem? o.sheet.clocks i ≡ some k) where
  there : quoting_of s i ≡ got (clock_place o.sheet i + 1) (clock_place o.sheet i + length (spell_clock k))
  there = quoting_there s i o c (opens_read s o c opens) k e

  bytes : Bytes s (clock_place o.sheet i + 1) (spell k.expr) (clock_place o.sheet i + length (spell_clock k))
  bytes = rw add-one (expr_bytes k (rw opens.bytes (clock_bytes o.sheet i k e)))

  -- the part is the expression's spelling
  part_spelled : quoted_part (quoting_of s i) s ≡ spell k.expr
  part_spelled = rw there (part bytes)

  pub quoted : (at from : ℕ × ℕ) → from.0 ≡ at.0 → from.1 ≡ quoted_from (quoting_of s i) + at.1 → Quoted s i at (quoted_part (quoting_of s i) s) from
  quoted at from same begins =
      let place : ℕ = clock_place o.sheet i in
      let below : i < length o.sheet.clocks = lookup_below o.sheet.clocks i k e in
      let n : place + 1 + length (spell k.expr) ≡ clock_place o.sheet (suc i) = omega (arith, next_place o.sheet i k e, length-append (k.state ∷ []) (spell k.expr)) in
      let l : place + length (spell_clock k) - (place + 1) ≡ length (spell k.expr) = omega arith in
      rw part_spelled
      (record {
        place = place;
        its_place = clock_at_lem s o c opens i (omega arith);
        next_place = rw n (clock_at_lem s o c opens (suc i) (omega arith));
        bytes = sym (part bytes) ∙ ap (λ (m : ℕ). take m (drop (place + 1) s)) l;
        same_memory = same;
        behind = begins ∙ ap (λ (x : Read ℕ). quoted_from x + at.1) there;
        never_empty = has_tag k.expr;
      })
