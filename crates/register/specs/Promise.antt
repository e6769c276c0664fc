-- What closing and quoting promise, from the bytes s of a sheet: without a reader, by what stands where in them.
use Rattle.std.specs.Prelude.{◌≡◌, ◌≢◌, Bool, true, false, ◌||◌, List, [], ◌∷◌, ℕ, suc, ◌+◌, ◌<◌, eqb, length, take, drop, get_or, Result}
use Rattle.std.proofs.Math.Option.{some}
use Rattle.std.proofs.Math.ListN.{get_elem?}
use Rattle.expression.specs.Expression.{Clock}
use Rattle.sheet.specs.Sheet.{Link}
use Rattle.sheet.specs.SheetRead.{SheetRead}
use Rattle.sheet.specs.Format.{ClockAt, Passed}
use Rattle.sizing.specs.Rooms.{row_of, whole_room}
use Rattle.reply.specs.declared.Refusal.{Refusal}
use Rattle.register.specs.Closing.{Closes}

-- ---- closing

-- "Closing a clock alters one mark in the sheet and no envelope, verdict, size or whole total": a sheet before and after the chosen clocks are closed
pub record Alters (chosen : ℕ → Bool) (before after : SheetRead) : Type 0 where
  -- a chosen clock is marked closed, and keeps its expression
  pub marks : (i : ℕ) (k : Clock) → get_elem? before.sheet.clocks i ≡ some k → chosen i ≡ true → get_elem? after.sheet.clocks i ≡ some (record { state = 1; expr = k.expr })
  -- any other is as it was, whatever it is built over: "a clock built over a closed one keeps its own mark"
  pub keeps_marks : (i : ℕ) → chosen i ≡ false → get_elem? after.sheet.clocks i ≡ get_elem? before.sheet.clocks i
  pub keeps_words : after.sheet.words ≡ before.sheet.words
  pub keeps_links : after.sheet.links ≡ before.sheet.links
  pub keeps_envelopes : after.table ≡ before.table
  -- with the size that an accepted verdict carries
  pub keeps_verdicts : (l : Link) → (row_of after l).verdict ≡ (row_of before l).verdict
  pub keeps_whole_room : whole_room after ≡ whole_room before

-- clock i alone
abbrev pub only : ℕ → ℕ → Bool
only i j = eqb i j

-- clock i of the sheet o was open and is closed: from the bytes s to the bytes t, by the byte at `place`
pub record OneClosed (s : List ℕ) (i : ℕ) (o : SheetRead) (place : ℕ) (t : List ℕ) : Type 0 where
  -- the bytes are a sheet, the one that was there but for one mark
  pub after : SheetRead
  pub passes : Passed t after
  pub alters : Alters (only i) o after
  -- the byte where the clock begins turns from 0 to 1, and no other is altered
  pub its_place : ClockAt s i place
  pub was_open : get_or s place 0 ≡ 0
  pub now_closed : get_or t place 0 ≡ 1
  pub other_bytes : (j : ℕ) → j ≢ place → get_or t j 0 ≡ get_or s j 0
  pub same_length : length t ≡ length s

-- the clocks of a list are closed one after another: from the bytes s to the bytes t
pub data ClosedInTurn : List ℕ → List ℕ → List ℕ → Type 0 where
  none : {s : List ℕ} → ClosedInTurn [] s s
  next : {i : ℕ} {is s t u : List ℕ} {r : Result ℕ Refusal} → Closes s i r t → ClosedInTurn is t u → ClosedInTurn (i ∷ is) s u

-- the clocks of a list
unfoldable pub among : List ℕ → ℕ → Bool
among [] j = false
among (i ∷ is) j = only i j || among is j

-- ---- quoting

-- the expression of clock i is handed back "as that very part of the sheet": the sheet lies at `at`, and the part at `from`, each a block of memory and an
-- offset in it
pub record Quoted (s : List ℕ) (i : ℕ) (at : ℕ × ℕ) (part : List ℕ) (from : ℕ × ℕ) : Type 0 where
  -- it begins behind the clock's state, and ends where what follows the clock begins
  pub place : ℕ
  pub its_place : ClockAt s i place
  pub next_place : ClockAt s (suc i) (place + 1 + length part)
  pub bytes : part ≡ take (length part) (drop (place + 1) s)
  pub same_memory : from.0 ≡ at.0
  pub behind : from.1 ≡ place + 1 + at.1
  -- "an empty part, which no expression is"
  pub never_empty : 0 < length part
