-- "The listing program", its sheet, and the figures on whole sheets: what working them out gives, and what document 01 says.
use Rattle.std.specs.Prelude.{List, [], ◌∷◌, ◌++◌, ℕ, zero, suc, ℤ, pos, neg_ℤ, replicate, Result, Ok, Err}
use Rattle.reply.specs.declared.Refusal.{Refusal}
use Rattle.reply.specs.Inner.Causes.{refusal}
use Rattle.sizing.specs.declared.Totals.{Totals}
use Rattle.sizing.specs.WorkOut.{worked_of, reply_of, clocks_out, links_out}

-- the reply, and what the two lent slices hold at the end
pub record Answer : Type 0 where
  pub reply : Result Totals Refusal
  pub clocks : List ℤ
  pub links : List ℤ

abbrev pub zeros : ℕ → List ℤ
zeros n = replicate n (pos 0)

-- what working s out gives, with slices of so many zeros lent
abbrev pub answer_to : List ℕ → ℕ → ℕ → Answer
answer_to s clocks links =
    record {
      reply = reply_of (worked_of s clocks links);
      clocks = clocks_out (worked_of s clocks links) (zeros clocks);
      links = links_out (worked_of s clocks links) (zeros links);
    }

abbrev pub accepted : ℕ → ℕ → ℕ → ℕ → List ℤ → List ℤ → Answer
accepted clocks links opened whole cs ls =
    record {
      reply = Ok (record { clocks = clocks; links = links; opened = opened; whole = whole });
      clocks = cs;
      links = ls;
    }

-- nothing is written
abbrev pub refused_at : ℕ → ℕ → ℕ → ℕ → Answer
refused_at number place clocks links =
    record {
      reply = Err (refusal number place);
      clocks = zeros clocks;
      links = zeros links;
    }

-- "Input (46 bytes, hexadecimal)"
abbrev pub document : List ℕ
document =
    0x02 ∷ 0x00 ∷ 0x00 ∷ 0x05 ∷ 0x01 ∷ 0x01 ∷ 0x00 ∷ 0x01 ∷ 0x00 ∷ 0x01 ∷ 0x05 ∷ 0x00 ∷ 0x00 ∷ 0x00 ∷ 0x01 ∷ 0x01 ∷ 0x01
    ∷ 0x03 ∷ 0x00 ∷ 0x00 ∷ 0x01 ∷ 0x00 ∷ 0x00 ∷ 0x00 ∷ 0x01 ∷ 0x01 ∷ 0x00 ∷ 0x01 ∷ 0x03 ∷ 0x05 ∷ 0x00 ∷ 0x00
    ∷ 0x03 ∷ 0x00 ∷ 0x00 ∷ 0x00 ∷ 0x01 ∷ 0x00 ∷ 0x01 ∷ 0x00 ∷ 0x00 ∷ 0x00 ∷ 0x00 ∷ 0x00 ∷ 0x02 ∷ 0x00 ∷ []

-- a sheet of one word, one open clock and no link
abbrev pub one_clock : List ℕ → List ℕ → List ℕ
one_clock word expression = (1 ∷ 0 ∷ word) ++ ((1 ∷ 0 ∷ 0 ∷ expression) ++ (0 ∷ 0 ∷ []))

-- (10)
abbrev pub w10 : List ℕ
w10 = 0 ∷ 2 ∷ 1 ∷ 0 ∷ []

-- so many nots over word 0: their depth is one more
unfoldable pub nots : ℕ → List ℕ
nots zero = 1 ∷ 0 ∷ 0 ∷ []
nots (suc n) = 3 ∷ nots n

-- declared 0 1 5 3
abbrev pub declared0153 : List ℕ
declared0153 = 2 ∷ 0 ∷ 0 ∷ 0 ∷ 0 ∷ 1 ∷ 0 ∷ 0 ∷ 0 ∷ 5 ∷ 0 ∷ 0 ∷ 0 ∷ 3 ∷ 0 ∷ 0 ∷ 0 ∷ []

-- an open clock declared k K 1 1, with the four bytes of k
abbrev pub open_rate_one : List ℕ → ℕ → List ℕ
open_rate_one k K = (0 ∷ 2 ∷ k) ++ (K ∷ 0 ∷ 0 ∷ 0 ∷ 1 ∷ 0 ∷ 0 ∷ 0 ∷ 1 ∷ 0 ∷ 0 ∷ 0 ∷ [])

-- clocks -2 0 1 1, 0 0 1 1 and 3 3 1 1; links from the second to the first, and from the first to the third
abbrev pub rate_one : List ℕ
rate_one =
    (0 ∷ 0 ∷ 3 ∷ 0 ∷ open_rate_one (0xfe ∷ 0xff ∷ 0xff ∷ 0xff ∷ []) 0)
    ++ (open_rate_one (0 ∷ 0 ∷ 0 ∷ 0 ∷ []) 0
    ++ (open_rate_one (3 ∷ 0 ∷ 0 ∷ 0 ∷ []) 3
    ++ (2 ∷ 0 ∷ 1 ∷ 0 ∷ 0 ∷ 0 ∷ 0 ∷ 0 ∷ 2 ∷ 0 ∷ [])))

abbrev pub given : List Answer
given =
    answer_to document 12 9
    ∷ answer_to document 13 10
    ∷ answer_to document 12 8
    ∷ answer_to (document ++ (0 ∷ [])) 12 9
    ∷ answer_to (one_clock (0 ∷ 1 ∷ 0 ∷ []) (nots 0)) 4 0
    ∷ answer_to (one_clock (1 ∷ 1 ∷ 0 ∷ 1 ∷ []) (nots 1)) 4 0
    ∷ answer_to (one_clock w10 declared0153) 4 0
    ∷ answer_to (one_clock w10 (nots 11)) 4 0
    ∷ answer_to (one_clock w10 (nots 12)) 4 0
    ∷ answer_to rate_one 12 6
    ∷ []

-- "clock 0 open -2 0 5 3", "clock 1 open 5 9 5 3", "clock 2 closed 3 4 5 2"
abbrev pub document_clocks : List ℤ
document_clocks =
    neg_ℤ (pos 2) ∷ pos 0 ∷ pos 5 ∷ pos 3
    ∷ pos 5 ∷ pos 9 ∷ pos 5 ∷ pos 3
    ∷ pos 3 ∷ pos 4 ∷ pos 5 ∷ pos 2 ∷ []

-- "link 0 0 1 open accepted 2", "link 1 1 0 open early 0", "link 2 0 2 closed rates 0": verdict, size, state
abbrev pub document_links : List ℤ
document_links = pos 0 ∷ pos 2 ∷ pos 0 ∷ pos 2 ∷ pos 0 ∷ pos 0 ∷ pos 1 ∷ pos 0 ∷ pos 1 ∷ []

-- "room 2 2"; "elements past those stay as found"; 11; 10; "Period 0: refused 4"; "Not of 0(1): refused 8"; "Declared 0 1 5 3: refused 7"; "Depth 12 taken, 13 refused", by 6. The numbers are document 01's figures, not names that the rules use. The last are those of document 02, item 3: "3 are enough".
abbrev pub said : List Answer
said =
    accepted 3 3 2 2 document_clocks document_links
    ∷ accepted 3 3 2 2 (document_clocks ++ zeros 1) (document_links ++ zeros 1)
    ∷ refused_at 11 0 12 8
    ∷ refused_at 10 46 12 9
    ∷ refused_at 4 4 4 0
    ∷ refused_at 8 9 4 0
    ∷ refused_at 7 9 4 0
    ∷ accepted 1 0 0 0 (pos 1 ∷ pos 1 ∷ pos 2 ∷ pos 1 ∷ []) []
    ∷ refused_at 6 21 4 0
    ∷ accepted 3 2 3 3
    (pos 0 ∷ pos 0 ∷ pos 1 ∷ pos 1 ∷ pos 0 ∷ pos 0 ∷ pos 1 ∷ pos 1 ∷ pos 3 ∷ pos 3 ∷ pos 1 ∷ pos 1 ∷ [])
    (pos 0 ∷ pos 0 ∷ pos 0 ∷ pos 0 ∷ pos 3 ∷ pos 0 ∷ [])
    ∷ []
