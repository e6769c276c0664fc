-- Sheets with some of their clocks marked closed, as values.
use Rattle.std.specs.Prelude.{Bool, true, false, List, [], ◌∷◌, ℕ, suc}
use Rattle.expression.specs.Expression.{Clock}
use Rattle.sheet.specs.Sheet.{Sheet}
use Rattle.sheet.specs.SheetRead.{SheetRead}
use Rattle.register.specs.Closing.{closing_of, closed_bytes}

-- "0 open, 1 closed"
abbrev pub closed_clock : Clock → Clock
closed_clock k = record { state = 1; expr = k.expr }

abbrev pub marked : Bool → Clock → Clock
marked true k = closed_clock k
marked false k = k

-- clocks with the chosen ones marked closed; clocks are chosen by their index
unfoldable pub mark_clocks : (ℕ → Bool) → List Clock → List Clock
mark_clocks chosen [] = []
mark_clocks chosen (k ∷ ks) = marked (chosen 0) k ∷ mark_clocks (λ i. chosen (suc i)) ks

-- the same sheet with the chosen clocks marked closed
abbrev pub close_sheet : (ℕ → Bool) → Sheet → Sheet
close_sheet chosen v = record { words = v.words; clocks = mark_clocks chosen v.clocks; links = v.links }

-- and with the same table
abbrev pub close_in : (ℕ → Bool) → SheetRead → SheetRead
close_in chosen o = record { sheet = close_sheet chosen o.sheet; table = o.table }

-- the bytes after the clocks of a list are closed one after another
unfoldable pub close_each : List ℕ → List ℕ → List ℕ
close_each [] s = s
close_each (i ∷ is) s = close_each is (closed_bytes (closing_of s i) s)
