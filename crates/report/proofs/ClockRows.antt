-- The clocks' lines in a loop over the tables: the line of the next clock, and those after it. Assumes nothing.
use mathlib.Core.Path.{◌≡◌, sym, ap, ◌∙◌}
use mathlib.Core.List.{List, [], ◌∷◌, ◌++◌}
use Prim.Native.Nat.{ℕ, suc, ◌+◌, ◌<◌}
use native.Mathlib.Numerals.{add-one}
use lib.ListN.{length, get_or, drop}
use lib.Seq.{drop-cons, drop-length}
use Rattle.envelope.specs.declared.Node.{Node}
use Rattle.line.specs.Text.{line_of}
use Rattle.line.specs.Letters.{letters}
use Rattle.report.specs.Listing.{clock_fields, clock_lines}

-- those from index i on, and the one there
pub drop_next : {A : Type 0} (xs : List A) (i : ℕ) (x : A) → i < length xs → x ≡ get_or xs i x → drop i xs ≡ x ∷ drop (i + 1) xs
drop_next {A} xs i x h e = rw (add-one i) (drop-cons xs i x h ∙ ap (λ (y : A). y ∷ drop (suc i) xs) (sym e))

module _ (t : List Node) (ss : List ℕ) where
  -- the lines from clock i on
  abbrev pub clocks_from : ℕ → List ℕ
  clocks_from i = clock_lines i (drop i ss) (drop i t)

  pub clocks_next : (i : ℕ) → i < length ss → i < length t → (x : Node) → x ≡ get_or t i x → clocks_from i ≡ line_of (letters "clock") (clock_fields i (get_or ss i 0) x.envelope) ++ clocks_from (i + 1)
  unfolding clock_lines
  clocks_next i h l x e = rw (drop_next t i x l e, add-one i, drop-cons ss i 0 h)

  pub clocks_none : (i : ℕ) → i ≡ length ss → clocks_from i ≡ []
  unfolding clock_lines
  clocks_none i e = rw (e, drop-length)
