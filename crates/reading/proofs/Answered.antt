-- What the code's answer to a sheet tells of what was read: a sheet with what was found of it, or a refusal. Assumes nothing.
use mathlib.Core.Path.{◌≡◌, refl}
use Prim.Native.Nat.{ℕ}
use Rattle.std.specs.Prelude.{Ok, Err}
use Rattle.reply.specs.declared.Refusal.{Refusal}
use Rattle.reply.specs.Inner.Causes.{refusal}
use Rattle.field.specs.Read.{Read, Read.got, Read.refused}
use Rattle.sheet.specs.SheetRead.{SheetRead}
use Rattle.reading.specs.declared.Found.{Found}
use Rattle.reading.specs.Inner.Sections.{found_of, reading_of}

pub reading_got : (X : Read SheetRead) (f : Found) → reading_of X ≡ Ok f → (o : SheetRead) × (c : ℕ) × (X ≡ got o c) × (found_of o ≡ f)
reading_got (got o c) f e = (o, c, refl, cc)
reading_got (refused number place) f e = absurd (cc)

pub reading_refused : (X : Read SheetRead) (e : Refusal) → reading_of X ≡ Err e → (number place : ℕ) × (X ≡ refused number place) × (refusal number place ≡ e)
reading_refused (got o c) e h = absurd (cc)
reading_refused (refused number place) e h = (number, place, refl, cc)
