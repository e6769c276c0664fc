-- The links of a sheet that was read, as rows, and the two rooms as sums over them.
use Rattle.std.specs.Prelude.{List, [], ◌∷◌, map, ℕ, ◌+◌}
use Rattle.std.proofs.Math.Option.{Option, none, some}
use Rattle.std.proofs.Math.ListN.{get_elem?}
use Rattle.envelope.specs.declared.Node.{Node}
use Rattle.link.specs.declared.Verdict.{Verdict}
use Rattle.link.specs.declared.Verdict.TheVariants.{Rates}
use Rattle.link.specs.declared.Row.{Row}
use Rattle.link.specs.Link.{verdict_of, size_in, state_of, open_size_of}
use Rattle.expression.specs.Expression.{Clock}
use Rattle.sheet.specs.Sheet.{Link}
use Rattle.sheet.specs.SheetRead.{SheetRead}

-- the verdict on a link between two nodes (a link whose end is missing stands in no legal sheet)
abbrev pub verdict_between : Option Node → Option Node → Verdict
verdict_between none y = Rates
verdict_between (some x) none = Rates
verdict_between (some x) (some y) = verdict_of x.envelope y.envelope

abbrev pub verdict_in : List Node → Link → Verdict
verdict_in table l = verdict_between (get_elem? table l.producer) (get_elem? table l.consumer)

-- a clock's mark
abbrev pub state_in : Option Clock → ℕ
state_in none = 0
state_in (some c) = c.state

-- "Each link row holds its ends, its state, and its verdict"
abbrev pub row_of : SheetRead → Link → Row
row_of o l =
    record {
      producer = l.producer;
      consumer = l.consumer;
      state = state_of (state_in (get_elem? o.sheet.clocks l.producer)) (state_in (get_elem? o.sheet.clocks l.consumer));
      verdict = verdict_in o.table l;
    }

abbrev pub rows_of : SheetRead → List Row
rows_of o = map (row_of o) o.sheet.links

unfoldable pub total : List ℕ → ℕ
total [] = 0
total (x ∷ xs) = x + total xs

-- "Open room is the sum of sizes over accepted open links, whole room over all accepted links."
unfoldable pub open_room : SheetRead → ℕ
open_room o = total (map open_size_of (rows_of o))

abbrev pub size_of_row : Row → ℕ
size_of_row r = size_in r.verdict

unfoldable pub whole_room : SheetRead → ℕ
whole_room o = total (map size_of_row (rows_of o))
