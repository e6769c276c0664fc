-- "Figures to hold the work to": those on envelopes and links. What the rules give, and what document 01 says, or item 3 of document 02.
use Rattle.std.specs.Prelude.{List, [], ◌∷◌, ℕ, pos, neg_ℤ, Ok, Err}
use Rattle.envelope.specs.declared.Envelope.{Envelope}
use Rattle.envelope.specs.Envelope.{numbers, normal_of, not_of, on_of}
use Rattle.envelope.specs.Word.{word_of}
use Rattle.envelope.specs.Made.{Made, number_of, declared_of, negated_of}
use Rattle.link.specs.declared.Verdict.{Verdict}
use Rattle.link.specs.declared.Verdict.TheVariants.{Accepted, Early}
use Rattle.link.specs.Link.{verdict_of}

pub data Figure : Type 0 where
  envelope : Envelope → Figure
  refused : ℕ → Figure
  verdict : Verdict → Figure

-- what a rule makes: "taken as" an envelope, or "refused" with a number
abbrev pub made : Made → Figure
made (Ok x) = envelope x.envelope
made (Err flaw) = refused (number_of flaw)

-- (11010)
abbrev pub w11010 : Envelope
w11010 = word_of [] (1 ∷ 1 ∷ 0 ∷ 1 ∷ 0 ∷ [])

-- declared -2 0 1 1
abbrev pub raised_one : Envelope
raised_one = normal_of (neg_ℤ (pos 2)) (pos 0) 1 1

abbrev pub given : List Figure
given =
    envelope w11010
    ∷ envelope (word_of (0 ∷ []) (0 ∷ 0 ∷ 1 ∷ 1 ∷ 1 ∷ []))
    ∷ envelope (word_of [] (0 ∷ 0 ∷ 1 ∷ 0 ∷ 0 ∷ []))
    ∷ envelope (on_of (word_of [] (1 ∷ 0 ∷ [])) (word_of [] (1 ∷ 0 ∷ [])))
    ∷ envelope (on_of w11010 (word_of [] (0 ∷ 1 ∷ 0 ∷ [])))
    ∷ envelope (on_of w11010 (word_of [] (1 ∷ 0 ∷ 0 ∷ [])))
    ∷ envelope (on_of w11010 (word_of [] (1 ∷ 1 ∷ 0 ∷ [])))
    ∷ envelope (not_of (numbers (pos 6) (pos 9) 5 3))
    ∷ envelope (not_of (not_of (numbers (pos 6) (pos 9) 5 3)))
    ∷ made (declared_of (pos 0) (pos 1) 5 3)
    ∷ made (declared_of (pos 0) (pos 0) 2 2)
    ∷ made (declared_of (pos 1) (pos 9) 10 6)
    ∷ made (declared_of (neg_ℤ (pos 2)) (pos 0) 1 1)
    ∷ made (negated_of (word_of (0 ∷ []) (1 ∷ [])))
    ∷ verdict (verdict_of (numbers (pos 0) (pos 2) 5 3) (numbers (pos 0) (pos 2) 5 3))
    ∷ verdict (verdict_of (numbers (pos 0) (pos 3) 5 3) (numbers (pos 0) (pos 2) 5 3))
    ∷ verdict (verdict_of (numbers (pos 0) (pos 0) 1 1) raised_one)
    ∷ verdict (verdict_of raised_one (numbers (pos 3) (pos 3) 1 1))
    ∷ []

abbrev pub said : List Figure
said =
    envelope (numbers (neg_ℤ (pos 2)) (pos 0) 5 3)
    ∷ envelope (numbers (pos 5) (pos 9) 5 3)
    ∷ envelope (numbers (pos 2) (pos 2) 5 1)
    ∷ envelope (numbers (pos 0) (pos 0) 4 1)
    ∷ envelope (numbers (pos 1) (pos 1) 5 1)
    ∷ envelope (numbers (pos 0) (pos 0) 5 1)
    ∷ envelope (numbers (neg_ℤ (pos 3)) (pos 0) 5 2)
    ∷ envelope (numbers (neg_ℤ (pos 6)) (pos 0) 5 2)
    ∷ envelope (numbers (pos 2) (pos 9) 5 3)
    ∷ refused 7
    ∷ envelope (numbers (pos 0) (pos 0) 1 1)
    ∷ envelope (numbers (pos 1) (pos 4) 5 3)
    ∷ envelope (numbers (pos 0) (pos 0) 1 1)
    ∷ refused 8
    ∷ verdict (Accepted 0)
    ∷ verdict Early
    ∷ verdict (Accepted 0)
    ∷ verdict (Accepted 3)
    ∷ []
