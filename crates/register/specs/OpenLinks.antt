-- Which links of a sheet are open, and which of them stay so when clocks are closed.
use Rattle.std.specs.Prelude.{◌≡◌, ◌⊎◌, ◌≢◌, Bool, true, false, not, ◌||◌, List, [], ◌∷◌, map, ℕ, eqb}
use Rattle.link.specs.declared.Row.{Row}
use Rattle.field.specs.Spelling.{AllBytes}
use Rattle.sheet.specs.Sheet.{Link}
use Rattle.sheet.specs.SheetRead.{SheetRead}
use Rattle.sheet.specs.Format.{Passed}
use Rattle.sizing.specs.Rooms.{row_of, rows_of, total, size_of_row, open_room}
use Rattle.register.specs.Table.{HasMark}
use Rattle.register.specs.Promise.{ClosedInTurn, among}

abbrev pub with_if : {A : Type 0} → Bool → A → List A → List A
with_if true x xs = x ∷ xs
with_if false x xs = xs

-- those of a list that pass a test
unfoldable pub those : {A : Type 0} → (A → Bool) → List A → List A
those test [] = []
those test (x ∷ xs) = with_if (test x) x (those test xs)

-- "state (0 open, 1 closed) per link"
abbrev pub is_open : Row → Bool
is_open r = eqb r.state 0

-- neither end is chosen
abbrev pub untouched : (ℕ → Bool) → Row → Bool
untouched chosen r = not (chosen r.producer || chosen r.consumer)

-- the states of a sheet's links
pub record LinkStates (o : SheetRead) : Type 0 where
  -- "A link is closed when its producer or its consumer is marked closed"
  pub closed_by_an_end : (l : Link) → HasMark o l.producer 1 ⊎ HasMark o l.consumer 1 → (row_of o l).state ≡ 1
  pub only_by_an_end : (l : Link) → (row_of o l).state ≡ 1 → HasMark o l.producer 1 ⊎ HasMark o l.consumer 1
  pub else_open : (l : Link) → (row_of o l).state ≢ 1 → (row_of o l).state ≡ 0
  -- "Open room is the sum of sizes over accepted open links"
  pub open_room_is : open_room o ≡ total (map size_of_row (those is_open (rows_of o)))

pub record OpenLinks : Type 0 where
  pub states : (o : SheetRead) → LinkStates o
  -- after clocks are closed, the links still open are those that were open and have no end among them
  pub still_open : (s : List ℕ) → AllBytes s → (is t : List ℕ) → ClosedInTurn is s t → (o after : SheetRead) → Passed s o → Passed t after
      → those is_open (rows_of after) ≡ those (untouched (among is)) (those is_open (rows_of o))
