-- The envelope of a clock, from a sheet's bytes.
use Rattle.std.specs.Prelude.{List, ℕ, ◌+◌, ℤ, pos, nat_abs, get_or, Result, Ok, Err}
use Rattle.std.proofs.Math.Option.{Option, some, none}
use Rattle.std.proofs.Math.ListN.{get_elem?}
use Rattle.reply.specs.Numbers.{no_clock}
use Rattle.reply.specs.declared.Refusal.{Refusal}
use Rattle.reply.specs.Inner.Causes.{refusal}
use Rattle.field.specs.Read.{Read, Read.got, Read.refused}
use Rattle.envelope.specs.declared.Envelope.{Envelope}
use Rattle.envelope.specs.declared.Node.{Node}
use Rattle.envelope.specs.Envelope.{numbers}
use Rattle.sheet.specs.Reader.{read_sheet}
use Rattle.sheet.specs.SheetRead.{SheetRead}

-- "16: there is no such clock"
abbrev pub envelope_in : Option Node → Result Envelope Refusal
envelope_in none = Err (refusal no_clock 0)
envelope_in (some x) = Ok x.envelope

abbrev pub envelope_at : Read SheetRead → ℕ → Result Envelope Refusal
envelope_at (got o c) i = envelope_in (get_elem? o.table i)
envelope_at (refused number place) i = Err (refusal number place)

-- the envelope of clock i, or the refusal of the sheet
abbrev pub envelope_of : List ℕ → ℕ → Result Envelope Refusal
envelope_of s i = envelope_at (read_sheet s) i

-- the envelope whose four numbers stand at a place of a list
abbrev pub numbers_from : List ℤ → ℕ → Envelope
numbers_from t a =
    numbers (get_or t a (pos 0)) (get_or t (a + 1) (pos 0)) (nat_abs (get_or t (a + 2) (pos 0))) (nat_abs (get_or t (a + 3) (pos 0)))
