-- The lines of links whose ends are in a table, in a loop: what is left, put from here, gives what all gives. Assumes nothing.
use mathlib.Core.Path.{◌≡◌, sym, ap, ◌∙◌}
use mathlib.Core.List.{List, [], ◌∷◌, ◌++◌}
use Prim.Native.Nat.{ℕ, ◌+◌, ◌<◌}
use native.Mathlib.Numerals.{add-one}
use lib.ListN.{length, get_or, drop}
use lib.Seq.{drop-length}
use Rattle.envelope.specs.declared.Node.{Node}
use Rattle.link.specs.declared.Row.{Row}
use Rattle.sheet.specs.Sheet.{Link}
use Rattle.sizing.specs.Inner.Rows.{row_at, rows_in}
use Rattle.line.specs.Text.{Out, put, put_line, line_of}
use Rattle.line.specs.Letters.{letters}
use Rattle.line.proofs.Puts.{put_more}
use Rattle.report.specs.Listing.{link_fields, link_lines}
use Rattle.report.proofs.ClockRows.{drop_next}

lines_next : (i : ℕ) (r : Row) (rs qs : List Row) → qs ≡ r ∷ rs → link_lines i qs ≡ line_of (letters "link") (link_fields i r) ++ link_lines (i + 1) rs
unfolding link_lines
lines_next i r rs qs e = rw (e, add-one)

module _ (xs : List Node) (ss : List ℕ) (es : List Link) (o : Out) where
  abbrev rows_from : ℕ → List Row
  rows_from i = rows_in xs ss (drop i es)

  abbrev pub Going : ℕ → Out → Type 0
  Going i p = put p (link_lines i (rows_from i)) ≡ put o (link_lines 0 (rows_in xs ss es))

  pub going_more : (i : ℕ) (p q : Out) → Going i p → i < length es → (l : Link) → l ≡ get_or es i l → (r : Row) → r ≡ row_at xs ss l → q ≡ put_line p (letters "link") (link_fields i r) → Going (i + 1) q
  going_more i p q h more l is r e put =
      let rows : rows_from i ≡ r ∷ rows_from (i + 1) = ap (rows_in xs ss) (drop_next es i l more is) ∙ ap {B = List Row} (λ q. q ∷ rows_from (i + 1)) (sym e) in
      put_more p q (letters "link") (link_fields i r) _ _ (lines_next i r (rows_from (i + 1)) _ rows) put ∙ h

  pub going_all : (i : ℕ) (p : Out) → Going i p → i ≡ length es → p ≡ put o (link_lines 0 (rows_in xs ss es))
  unfolding link_lines put
  going_all i p h e =
      let none : drop i es ≡ [] = ap (λ (k : ℕ). drop k es) e ∙ drop-length es in
      ap (λ (ls : List Link). put p (link_lines i (rows_in xs ss ls))) (sym none) ∙ h
