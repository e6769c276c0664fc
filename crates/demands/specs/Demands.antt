-- The three demands, in the request's order and words. A reader who believes the definitions below can match each field to a phrase.
--
-- What must be believed, and where it stands (`tools/believed` counts its lines, and the tests hold this list to it):
--   what stands where in a sheet's bytes, and what refuses them: field/specs/{Field, Format, Spelling}, expression/specs/{Expression, Format},
--     sheet/specs/{Sheet, SheetRead, Format}
--   envelopes and their rules: whole/specs/{Rounding, Euclid, Order}, envelope/specs/{Limits, Envelope, Word, Made}, expression/specs/Evaluate
--   streams and what a clock can stand for: envelope/specs/Stream, expression/specs/Stands
--   links, rooms and the result slices: link/specs/{Link, Promise}, sizing/specs/{Rooms, Table, WorkOut, Promise}
--   closing and quoting: register/specs/{Table, Promise}
--   patterns: pattern/specs/{Step, Pattern, Beginning, Table, Walk}
--   the listing: line/specs/{Letters, Text}, report/specs/{Listing, Table}
--   "fixed": demands/specs/Entry; a refusal's number: reply/specs/{Numbers, Refusal}
-- and the types that are passed, in the src/ of reply, envelope, expression, link, pattern and sizing.
-- The contracts of the entry points need not be believed: the fields say what each gives, both ways. src/lib.rt has each entry point behind its contract.
-- What only inner functions and proofs use stands in specs/Inner.
-- That every function ends and never does anything undefined is part of every contract's proof and needs no statement.
use Rattle.std.specs.Prelude.{◌≡◌, ◌⊎◌, ◌↔◌, List, [], ◌++◌, ℕ, ◌+◌, ◌*◌, ◌≤◌, ◌<◌, ℤ, pos, length, drop, get_or, Result, Ok, Err}
use Rattle.std.proofs.Math.Option.{some}
use Rattle.std.proofs.Math.ListN.{get_elem?}
use Rattle.field.specs.Spelling.{AllBytes}
use Rattle.envelope.specs.declared.Envelope.{Envelope}
use Rattle.envelope.specs.declared.Node.{Node}
use Rattle.envelope.specs.Envelope.{Taken, result_of}
use Rattle.envelope.specs.Stream.{Stream, Within, Lies}
use Rattle.link.specs.declared.Verdict.TheVariants.{Accepted}
use Rattle.link.specs.Link.{size_of, verdict_of}
use Rattle.link.specs.Promise.{Serves}
use Rattle.pattern.specs.declared.Answer.{Answer}
use Rattle.pattern.specs.declared.Answer.TheVariants.{Inside}
use Rattle.pattern.specs.Beginning.{Begins}
use Rattle.pattern.specs.Answer.{Checks, Firsts, Nexts}
use Rattle.pattern.specs.Table.{Unfit, Refuses}
use Rattle.pattern.specs.Walk.{Walks}
use Rattle.expression.specs.Expression.{Expr}
use Rattle.expression.specs.Stands.{Stands}
use Rattle.reply.specs.declared.Refusal.{Refusal}
use Rattle.reply.specs.Refusal.{RefusedWith}
use Rattle.sizing.specs.declared.Totals.{Totals}
use Rattle.sheet.specs.Sheet.{Link}
use Rattle.sheet.specs.SheetRead.{SheetRead}
use Rattle.sheet.specs.Format.{Refused as SheetRefused, Passed}
use Rattle.sizing.specs.Table.{WorkRefused}
use Rattle.sizing.specs.Rooms.{row_of, rows_of, open_room, whole_room}
use Rattle.sizing.specs.WorkOut.{clock_numbers, link_numbers, flatten, WorksOut}
use Rattle.sizing.specs.Promise.{StreamOf}
use Rattle.register.specs.Closing.{Closes}
use Rattle.register.specs.Quoting.{Quotes, RepliesTo}
use Rattle.register.specs.Table.{HasMark, QuoteRefused, CloseRefused}
use Rattle.register.specs.Promise.{Alters, OneClosed, ClosedInTurn, among, Quoted}
use Rattle.report.specs.Listing.{sheet_text, ListsInto}
use Rattle.report.specs.Table.{ListRefused}
use Rattle.demands.specs.Entry.{Fixed}

-- "1. Every sheet, envelope and pattern, however damaged, gets an ending and a fixed reply. Entry points test their own input, and a refusal
-- gives its number and place and leaves lent memory untouched."
pub record Demand1 : Type 0 where
  -- "Every sheet .. gets .. a fixed reply": s is any list of bytes, the slices are of any length
  pub work_out_fixed : (s : List ℕ) (clocks links : List ℤ) → Fixed (λ (a : Result Totals Refusal × List ℤ × List ℤ). WorksOut s clocks links a.0 a.1 a.2)
  pub close_fixed : (s : List ℕ) (i : ℕ) → Fixed (λ (a : Result ℕ Refusal × List ℕ). Closes s i a.0 a.1)
  pub quote_fixed : (s : List ℕ) (i : ℕ) (at : ℕ × ℕ) → Fixed (λ (a : List ℕ × (ℕ × ℕ)). Quotes s i at a.0 a.1)
  pub quote_reply_fixed : (s : List ℕ) (i : ℕ) → Fixed (λ (a : Result (Unit {0}) Refusal). RepliesTo s i a)
  pub list_fixed : (s t : List ℕ) → Fixed (λ (a : Result ℕ Refusal × List ℕ). ListsInto s t a.0 a.1)
  -- "envelope and pattern": e is any four numbers, p any bytes
  pub check_fixed : (e : Envelope) (p : List ℕ) → Fixed (λ (a : Result Answer Refusal). Checks e p a)
  pub first_fixed : (e : Envelope) (p : List ℕ) → Fixed (λ (a : Result Answer Refusal × List ℕ). Firsts e p a.0 a.1)
  pub next_fixed : (e : Envelope) (p : List ℕ) → Fixed (λ (a : Result Answer Refusal × List ℕ). Nexts e p a.0 a.1)
  -- "a refusal gives its number and place": "Reply numbers", each given exactly when the table says, at its place. A sheet passes or is refused with one of
  -- 1 to 10, and not both; it is one sheet, and there is one refusal
  pub passed_or_refused : (s : List ℕ) → ((o : SheetRead) × Passed s o) ⊎ ((number : ℕ) × (place : ℕ) × SheetRefused s number place)
  pub never_both : (s : List ℕ) (o : SheetRead) (number place : ℕ) → Passed s o → SheetRefused s number place → ⊥
  pub one_sheet : (s : List ℕ) (o o' : SheetRead) → Passed s o → Passed s o' → o ≡ o'
  pub one_refusal : (s : List ℕ) (number number' place place' : ℕ) → SheetRefused s number place → SheetRefused s number' place' → (number ≡ number') × (place ≡ place')
  pub one_to_ten : (s : List ℕ) (number place : ℕ) → SheetRefused s number place → (1 ≤ number) × (number ≤ 10)
  -- 1 to 11; and totals only where the sheet passes and both slices are long enough
  pub work_out_refused : (s : List ℕ) (clocks links : List ℤ) (r : Result Totals Refusal) (cs ls : List ℤ) → WorksOut s clocks links r cs ls → (number place : ℕ)
      → RefusedWith r number place ↔ WorkRefused s (length clocks) (length links) number place
  pub work_out_0 : (s : List ℕ) (clocks links : List ℤ) (r : Result Totals Refusal) (cs ls : List ℤ) → WorksOut s clocks links r cs ls
      → ((t : Totals) × (r ≡ Ok t)) ↔ ((o : SheetRead) × Passed s o × (4 * length o.table ≤ length clocks) × (3 * length o.sheet.links ≤ length links))
  pub list_refused : (s t u : List ℕ) (r : Result ℕ Refusal) → ListsInto s t r u → (number place : ℕ)
      → RefusedWith r number place ↔ ListRefused s (length t) number place
  -- 12 to 15
  pub check_refused : (e : Envelope) (p : List ℕ) (a : Result Answer Refusal) → Checks e p a → (number place : ℕ) → RefusedWith a number place ↔ Refuses e p number place
  pub first_refused : (e : Envelope) (p : List ℕ) (a : Result Answer Refusal) (q : List ℕ) → Firsts e p a q → (number place : ℕ) → RefusedWith a number place ↔ Unfit e p number place
  pub next_refused : (e : Envelope) (p : List ℕ) (a : Result Answer Refusal) (q : List ℕ) → Nexts e p a q → (number place : ℕ) → RefusedWith a number place ↔ Refuses e p number place
  -- 16 and 17
  pub close_refused : (s : List ℕ) (i : ℕ) (r : Result ℕ Refusal) (t : List ℕ) → Closes s i r t → (number place : ℕ)
      → RefusedWith r number place ↔ CloseRefused s i number place
  pub close_0 : (s : List ℕ) → AllBytes s → (i : ℕ) (r : Result ℕ Refusal) (t : List ℕ) → Closes s i r t → ((place : ℕ) × (r ≡ Ok place)) ↔ ((o : SheetRead) × Passed s o × HasMark o i 0)
  pub quote_refused : (s : List ℕ) (i : ℕ) (r : Result (Unit {0}) Refusal) → RepliesTo s i r → (number place : ℕ)
      → RefusedWith r number place ↔ QuoteRefused s i number place
  pub quote_0 : (s : List ℕ) → AllBytes s → (i : ℕ) (r : Result (Unit {0}) Refusal) → RepliesTo s i r → (r ≡ Ok tt) ↔ ((o : SheetRead) × Passed s o × (i < length o.sheet.clocks))
  -- "a refusal .. leaves lent memory untouched"
  pub work_out_untouched : (s : List ℕ) (clocks links : List ℤ) (r : Result Totals Refusal) (cs ls : List ℤ) → WorksOut s clocks links r cs ls → (e : Refusal) → r ≡ Err e
      → (cs ≡ clocks) × (ls ≡ links)
  pub close_untouched : (s : List ℕ) (i : ℕ) (r : Result ℕ Refusal) (t : List ℕ) → Closes s i r t → (e : Refusal) → r ≡ Err e → t ≡ s
  pub first_untouched : (e : Envelope) (p : List ℕ) (r : Refusal) (q : List ℕ) → Firsts e p (Err r) q → q ≡ p
  pub next_untouched : (e : Envelope) (p : List ℕ) (r : Refusal) (q : List ℕ) → Nexts e p (Err r) q → q ≡ p
  pub list_untouched : (s t u : List ℕ) (r : Result ℕ Refusal) → ListsInto s t r u → (e : Refusal) → r ≡ Err e → u ≡ t

-- "2. Envelopes, verdicts and sizes are those of Cohen, Mandel, Plateau and Pouzet's clock envelopes, with the rounding and limits of document 01.
-- Closing a clock alters one mark in the sheet and no envelope, verdict, size or whole total."
pub record Demand2 : Type 0 where
  -- "Envelopes": those of the table of a sheet that passes, which the rules give clock by clock as its bytes are gone through. Each is taken
  pub taken : (s : List ℕ) → AllBytes s → (o : SheetRead) → Passed s o → (i : ℕ) (x : Node) → get_elem? o.table i ≡ some x → Taken x.envelope
  -- document 02, item 3: "k becomes 0 before use" where "l = n = 1 and k below 0". "A stream can't start before position 0", so none is lost or gained
  pub raised : (k K : ℤ) (l n : ℕ) (a : Stream) → Within a.bit k K l n ↔ Lies a (result_of k K l n)
  -- what a clock can stand for lies in its envelope, and there is some stream that it can stand for
  pub stands_inside : (s : List ℕ) → AllBytes s → (o : SheetRead) → Passed s o → (i : ℕ) (x : Node) → get_elem? o.table i ≡ some x
      → (a : Stream) → Stands o.sheet.words o.sheet.clocks (Expr.clock i) a → Lies a x.envelope
  pub some_stream : (s : List ℕ) → AllBytes s → (o : SheetRead) → Passed s o → (i : ℕ) → i < length o.sheet.clocks
      → (a : Stream) × Stands o.sheet.words o.sheet.clocks (Expr.clock i) a
  -- "verdicts and sizes"
  pub verdicts : (o : SheetRead) (l : Link) (x y : Node) → get_elem? o.table l.producer ≡ some x → get_elem? o.table l.consumer ≡ some y
      → (row_of o l).verdict ≡ verdict_of x.envelope y.envelope
  -- a size "is never below 0": the number that is carried is the quotient itself, with its sign
  pub sizes : (e f : Envelope) → Taken e → Taken f → (size : ℕ) → verdict_of e f ≡ Accepted size → pos size ≡ size_of e f
  -- and these are what is given, with both counts and both rooms
  pub given : (s : List ℕ) (clocks links : List ℤ) (r : Result Totals Refusal) (cs ls : List ℤ) → WorksOut s clocks links r cs ls
      → (o : SheetRead) → Passed s o → 4 * length o.table ≤ length clocks → 3 * length o.sheet.links ≤ length links
      → (r ≡ Ok (record { clocks = length o.table; links = length o.sheet.links; opened = open_room o; whole = whole_room o }))
      × (cs ≡ flatten clock_numbers o.table ++ drop (4 * length o.table) clocks)
      × (ls ≡ flatten link_numbers (rows_of o) ++ drop (3 * length o.sheet.links) links)
  -- and what is listed, into a buffer that has room; no listing is longer than 18,463 bytes
  pub listing : (s : List ℕ) (o : SheetRead) → Passed s o → (t u : List ℕ) (r : Result ℕ Refusal) → ListsInto s t r u → length (sheet_text o) ≤ length t
      → (r ≡ Ok (length (sheet_text o))) × (u ≡ sheet_text o ++ drop (length (sheet_text o)) t)
  pub listing_within : (s : List ℕ) → AllBytes s → (o : SheetRead) → Passed s o → length (sheet_text o) ≤ 18_463
  -- "Closing a clock alters one mark in the sheet and no envelope, verdict, size or whole total": where a place is answered, at it
  pub closing : (s : List ℕ) → AllBytes s → (i : ℕ) (r : Result ℕ Refusal) (t : List ℕ) → Closes s i r t → (place : ℕ) → r ≡ Ok place → (o : SheetRead) → Passed s o → OneClosed s i o place t
  -- any set of clocks, in any order
  pub any_set : (s : List ℕ) → AllBytes s → (is t : List ℕ) → ClosedInTurn is s t → (o : SheetRead) → Passed s o
      → (after : SheetRead) × Passed t after × Alters (among is) o after
  pub any_order : (s : List ℕ) → AllBytes s → (is js t u : List ℕ) → ClosedInTurn is s t → ClosedInTurn js s u → ((i : ℕ) → among is i ≡ among js i) → t ≡ u
  -- a clock's expression is "handed back as that very part of the sheet"; on a refusal "an empty part", one of the sheet's start
  pub quoting : (s : List ℕ) → AllBytes s → (i : ℕ) (at : ℕ × ℕ) (part : List ℕ) (from : ℕ × ℕ) → Quotes s i at part from
      → (o : SheetRead) → Passed s o → i < length o.sheet.clocks → Quoted s i at part from
  pub quoting_nothing : (s : List ℕ) (i : ℕ) (at : ℕ × ℕ) (part : List ℕ) (from : ℕ × ℕ) (r : Result (Unit {0}) Refusal) → Quotes s i at part from → RepliesTo s i r → (e : Refusal) → r ≡ Err e
      → (part ≡ []) × (from.0 ≡ at.0) × (from.1 ≡ at.1)

-- "3. For every envelope the program takes and every length up to 4,096, walking from the first pattern to the last meets each beginning of an endless
-- stream in that envelope exactly once, in binary order, and nothing else. For every accepted link, whichever streams the two clocks can stand for, or any
-- others inside their envelopes: after any number of instants, reads never exceed writes, and writes minus reads never exceed the size given."
pub record Demand3 : Type 0 where
  pub walk : (e : Envelope) → Taken e → (m : ℕ) → m ≤ 4_096 → Walks e m
  -- "check" answers inside exactly for those beginnings
  pub inside : (e : Envelope) → Taken e → (p : List ℕ) (a : Result Answer Refusal) → Checks e p a → (a ≡ Ok Inside) ↔ ((length p ≤ 4_096) × Begins e p)
  -- link m of a sheet that is worked out: its verdict in the result slice is 0, accepted, and the number after that is the size given
  pub links : (s : List ℕ) → AllBytes s → (clocks links : List ℤ) (r : Result Totals Refusal) (cs ls : List ℤ) → WorksOut s clocks links r cs ls → (t : Totals) → r ≡ Ok t
      → (o : SheetRead) → Passed s o → (m : ℕ) (l : Link) → get_elem? o.sheet.links m ≡ some l
      → get_or ls (3 * m) (pos 0) ≡ pos 0 → (size : ℕ) → get_or ls (3 * m + 1) (pos 0) ≡ pos size
      → (a b : Stream) → StreamOf o l.producer a → StreamOf o l.consumer b → Serves a b size
