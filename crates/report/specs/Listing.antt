-- "The listing program": the text of a sheet, field by field, and what `list` answers and writes.
use Rattle.std.specs.Prelude.{◌≡◌, cond, List, [], ◌∷◌, ◌++◌, map, ℕ, suc, leb, eqb, length, Result, Ok, Err}
use Rattle.std.proofs.lemmas.List.Edits.{sets}
use Rattle.field.specs.Read.{Read, Read.got, Read.refused}
use Rattle.envelope.specs.declared.Envelope.{Envelope}
use Rattle.envelope.specs.declared.Node.{Node}
use Rattle.link.specs.declared.Verdict.{Verdict}
use Rattle.link.specs.declared.Verdict.TheVariants.{Accepted, Rates, Early}
use Rattle.link.specs.declared.Row.{Row}
use Rattle.link.specs.Link.{size_in, open_size_of}
use Rattle.sheet.specs.Reader.{read_sheet}
use Rattle.expression.specs.Expression.{Clock}
use Rattle.sheet.specs.SheetRead.{SheetRead}
use Rattle.sizing.specs.Rooms.{rows_of, total, size_of_row}
use Rattle.line.specs.Letters.{letters}
use Rattle.line.specs.Text.{digits, decimal, line_of, outcome_fields}
use Rattle.reply.specs.declared.Refusal.{Refusal}
use Rattle.reply.specs.Inner.Causes.{refusal}

-- "open" or "closed"
abbrev pub state_word : ℕ → List ℕ
state_word state = cond (eqb state 1) (letters "closed") (letters "open")

abbrev pub verdict_word : Verdict → List ℕ
verdict_word (Accepted size) = letters "accepted"
verdict_word Rates = letters "rates"
verdict_word Early = letters "early"

-- "k, K, l, n"
abbrev pub envelope_fields : Envelope → List (List ℕ)
envelope_fields e = decimal e.k ∷ decimal e.K ∷ digits e.l ∷ digits e.n ∷ []

-- "Fields: clock, index, state, k, K, l, n"
abbrev pub clock_fields : ℕ → ℕ → Envelope → List (List ℕ)
clock_fields i state e = digits i ∷ state_word state ∷ envelope_fields e

-- "link, index, producer, consumer, state, verdict, size"
abbrev pub link_fields : ℕ → Row → List (List ℕ)
link_fields i r =
    digits i ∷ digits r.producer ∷ digits r.consumer ∷ state_word r.state ∷ verdict_word r.verdict ∷ digits (size_in r.verdict) ∷ []

-- "room, open, whole"
abbrev pub room_fields : ℕ → ℕ → List (List ℕ)
room_fields opened whole = digits opened ∷ digits whole ∷ []

-- "A refusal prints only `refused NUMBER at PLACE`."
abbrev pub refused_line : ℕ → ℕ → List ℕ
refused_line number place = line_of (letters "refused") (outcome_fields number place)

-- a line for each clock, from its state and its node; the first has index i
unfoldable pub clock_lines : ℕ → List ℕ → List Node → List ℕ
clock_lines i [] xs = []
clock_lines i (state ∷ ss) [] = []
clock_lines i (state ∷ ss) (x ∷ xs) = line_of (letters "clock") (clock_fields i state x.envelope) ++ clock_lines (suc i) ss xs

-- a line for each link, from its row; the first has index i
unfoldable pub link_lines : ℕ → List Row → List ℕ
link_lines i [] = []
link_lines i (r ∷ rs) = line_of (letters "link") (link_fields i r) ++ link_lines (suc i) rs

-- the clocks' lines, the links' lines, and the room line with both sums over the links
unfoldable pub whole_text : List ℕ → List Node → List Row → List ℕ
whole_text ss xs rs =
    clock_lines 0 ss xs ++ (link_lines 0 rs ++ line_of (letters "room") (room_fields (total (map open_size_of rs)) (total (map size_of_row rs))))

-- the listing of a sheet that was read
abbrev pub sheet_text : SheetRead → List ℕ
sheet_text o = whole_text (map (λ (c : Clock). c.state) o.sheet.clocks) o.table (rows_of o)

-- 128 clock lines of 56 bytes, 256 link lines of 44 and a room line of 31: no listing is longer
abbrev pub listing_most : ℕ
listing_most = 18_463

abbrev pub text_of : Read SheetRead → List ℕ
text_of (got o c) = sheet_text o
text_of (refused number place) = refused_line number place

-- what is printed of any bytes
unfoldable pub listing_of : List ℕ → List ℕ
listing_of s = text_of (read_sheet s)

-- the length of a text; "a lent result slice is too short" is 11, at 0
abbrev pub fitted_text : List ℕ → ℕ → Result ℕ Refusal
fitted_text t room = cond (leb (length t) room) (Ok (length t)) (Err (refusal 11 0))

-- the buffer at the end: the text and what stood past it, or all as it was
abbrev pub over : List ℕ → List ℕ → List ℕ
over t text = cond (leb (length t) (length text)) (sets text 0 t) text

-- a refused sheet's number and place go straight back, and nothing is written
abbrev pub listed_in : Read SheetRead → ℕ → Result ℕ Refusal
listed_in (got o c) room = fitted_text (sheet_text o) room
listed_in (refused number place) room = Err (refusal number place)

abbrev pub text_in : Read SheetRead → List ℕ → List ℕ
text_in (got o c) text = over (sheet_text o) text
text_in (refused number place) text = text

unfoldable pub listed_of : List ℕ → ℕ → Result ℕ Refusal
listed_of s room = listed_in (read_sheet s) room

unfoldable pub text_after : List ℕ → List ℕ → List ℕ
text_after s text = text_in (read_sheet s) text

-- the contract of `list`: its answer, and what the lent buffer holds at the end
pub record ListsInto (s text : List ℕ) (answer : Result ℕ Refusal) (text_end : List ℕ) : Type 0 where
  pub answer_is : answer ≡ listed_of s (length text)
  pub text_is : text_end ≡ text_after s text
