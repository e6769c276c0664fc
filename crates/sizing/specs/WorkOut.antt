-- Working a sheet out: the reply, and what the two lent slices hold at the end.
use Rattle.std.specs.Prelude.{◌≡◌, cond, List, [], ◌∷◌, ◌++◌, ℕ, ◌*◌, ℤ, pos, leb, length, drop, Result, Ok, Err}
use Rattle.reply.specs.Numbers.{short_result}
use Rattle.field.specs.Read.{Read, Read.got, Read.refused, bind}
use Rattle.envelope.specs.declared.Node.{Node}
use Rattle.link.specs.declared.Row.{Row}
use Rattle.link.specs.Link.{verdict_number, size_in}
use Rattle.reply.specs.declared.Refusal.{Refusal}
use Rattle.reply.specs.Inner.Causes.{refusal}
use Rattle.sizing.specs.declared.Totals.{Totals}
use Rattle.sheet.specs.Reader.{read_sheet}
use Rattle.sheet.specs.SheetRead.{SheetRead}
use Rattle.sizing.specs.Rooms.{rows_of, open_room, whole_room}

-- "11: a lent result slice is too short", "after the whole sheet has passed": so many numbers for the clocks, so many for the links
abbrev pub room_for : ℕ → ℕ → SheetRead → ℕ → Read SheetRead
room_for clocks links o c =
    cond (leb (4 * length o.table) clocks)
    (cond (leb (3 * length o.sheet.links) links) (got o c) (refused short_result 0))
    (refused short_result 0)

unfoldable pub worked_of : List ℕ → ℕ → ℕ → Read SheetRead
worked_of s clocks links = bind (read_sheet s) (room_for clocks links)

-- "both counts and both rooms"
abbrev pub totals_of : SheetRead → Totals
totals_of o =
    record { clocks = length o.table; links = length o.sheet.links; opened = open_room o; whole = whole_room o }

-- "returning both counts and both rooms"; "A refusal returns number and place"
abbrev pub reply_of : Read SheetRead → Result Totals Refusal
reply_of (got o c) = Ok (totals_of o)
reply_of (refused number place) = Err (refusal number place)

-- "k, K, l, n per clock"
abbrev pub clock_numbers : Node → List ℤ
clock_numbers x = x.envelope.k ∷ (x.envelope.K ∷ (pos x.envelope.l ∷ (pos x.envelope.n ∷ [])))

-- "verdict (0 accepted, 1 rates, 2 early), size and state (0 open, 1 closed) per link"
abbrev pub link_numbers : Row → List ℤ
link_numbers r = pos (verdict_number r.verdict) ∷ (pos (size_in r.verdict) ∷ (pos r.state ∷ []))

-- the numbers of each, one after another
unfoldable pub flatten : {A : Type 0} → (A → List ℤ) → List A → List ℤ
flatten f [] = []
flatten f (x ∷ xs) = f x ++ flatten f xs

-- "fills k, K, l, n per clock in one lent slice"; "elements past those stay as found"; on a refusal "no lent memory is written"
abbrev pub clocks_out : Read SheetRead → List ℤ → List ℤ
clocks_out (got o c) t = flatten clock_numbers o.table ++ drop (4 * length o.table) t
clocks_out (refused number place) t = t

abbrev pub links_out : Read SheetRead → List ℤ → List ℤ
links_out (got o c) t = flatten link_numbers (rows_of o) ++ drop (3 * length o.sheet.links) t
links_out (refused number place) t = t

-- the contract of `work_out`: the reply, and what the two lent slices hold at the end
pub record WorksOut (s : List ℕ) (clocks links : List ℤ) (reply : Result Totals Refusal) (clocks_end links_end : List ℤ) : Type 0 where
  pub reply_is : reply ≡ reply_of (worked_of s (length clocks) (length links))
  pub clocks_are : clocks_end ≡ clocks_out (worked_of s (length clocks) (length links)) clocks
  pub links_are : links_end ≡ links_out (worked_of s (length clocks) (length links)) links
