-- "Figures to hold the work to. Starred ones are proved from the definitions, all together by one claim over one list."
use Rattle.std.specs.Prelude.{List, [], ◌∷◌, ◌++◌, map, ℕ, zero, suc, pos, neg_ℤ, replicate, Result, Ok, Err}
use Rattle.link.specs.Figures as links
use Rattle.sizing.specs.Figures as sheets
use Rattle.envelope.specs.declared.Envelope.{Envelope}
use Rattle.envelope.specs.Envelope.{numbers}
use Rattle.reply.specs.declared.Refusal.{Refusal}
use Rattle.reply.specs.Inner.Causes.{refusal}
use Rattle.pattern.specs.declared.Answer.{Answer}
use Rattle.pattern.specs.declared.Answer.TheVariants.{Inside, Done, Last}
use Rattle.pattern.specs.Answer.{check_answer, first_answer, first_bytes, next_answer, next_bytes}

-- an envelope, a node or a verdict; a sheet worked out; the patterns of a walk; what a pattern's entry point answers
pub data Figure : Type 0 where
  number : links.Figure → Figure
  sheet : sheets.Answer → Figure
  patterns : List (List ℕ) → Figure
  answer : Result Answer Refusal → Figure

-- what follows an answer: ps where that is "done"
abbrev pub after_done : Result Answer Refusal → List (List ℕ) → List (List ℕ)
after_done (Ok Inside) ps = []
after_done (Ok Done) ps = ps
after_done (Ok Last) ps = []
after_done (Err r) ps = []

-- p, and what "next" writes from there on: at most `most` patterns
unfoldable pub walk_from : Envelope → ℕ → List ℕ → List (List ℕ)
walk_from e zero p = []
walk_from e (suc most) p = p ∷ after_done (next_answer e p) (walk_from e most (next_bytes e p))

-- what "first" writes over the bytes p, and "next" from there on
unfoldable pub walk_over : Envelope → ℕ → List ℕ → List (List ℕ)
walk_over e most p = after_done (first_answer e p) (walk_from e most (first_bytes e p))

-- at most `most` patterns of 2 3 2 1 at a length, whatever the slice held
abbrev pub walk2321 : ℕ → ℕ → Figure
walk2321 most length = patterns (walk_over (numbers (pos 2) (pos 3) 2 1) most (replicate length 7))

-- -2 0 1 1, which no node gives
abbrev pub old_rate_one : Envelope
old_rate_one = numbers (neg_ℤ (pos 2)) (pos 0) 1 1

-- what the definitions give
abbrev pub figures : List Figure
figures =
    map number links.given
    ++ (map sheet sheets.given
    ++ (walk2321 9 5
    ∷ walk2321 9 2
    ∷ answer (check_answer old_rate_one (1 ∷ []))
    ∷ answer (first_answer old_rate_one (1 ∷ []))
    ∷ answer (next_answer old_rate_one (1 ∷ []))
    ∷ []))

-- what document 01 says: "2 3 2 1 at length 5: 00010, 00011, 00100, 00101. At length 2: 00."; and document 02, item 3: "refuse the old numbers with 12"
abbrev pub said : List Figure
said =
    map number links.said
    ++ (map sheet sheets.said
    ++ (patterns ((0 ∷ 0 ∷ 0 ∷ 1 ∷ 0 ∷ []) ∷ (0 ∷ 0 ∷ 0 ∷ 1 ∷ 1 ∷ []) ∷ (0 ∷ 0 ∷ 1 ∷ 0 ∷ 0 ∷ []) ∷ (0 ∷ 0 ∷ 1 ∷ 0 ∷ 1 ∷ []) ∷ [])
    ∷ patterns ((0 ∷ 0 ∷ []) ∷ [])
    ∷ answer (Err (refusal 12 0))
    ∷ answer (Err (refusal 12 0))
    ∷ answer (Err (refusal 12 0))
    ∷ []))
