-- What refuses a sheet has a number from 1 to 10, so that 0, 16 and 17 say something else. Assumes nothing.
use mathlib.Core.Path.{◌≡◌, refl}
use mathlib.Core.List.{List, [], ◌∷◌, ◌++◌, map}
use Prim.Native.Nat.{ℕ, zero, suc, ◌+◌, ◌≤◌}
use lib.Dec.{leb}
use lib.ListN.{length}
use borrow.Author.Tests.{leb-true}
use Rattle.reply.specs.Numbers.{beyond, unknown, no_one, absent, trailing}
use Rattle.field.specs.Read.{Read.refused}
use Rattle.field.specs.Format.{Judged.passes, Format}
use Rattle.field.proofs.Format.{Gives, fails_cond, gives_ranged, fault_gives}
use Rattle.envelope.specs.declared.Node.{Node}
use Rattle.envelope.specs.Word.{bits_most, ones_in}
use Rattle.envelope.proofs.Tests.{both_true}
use Rattle.expression.specs.Expression.{depth_most}
use Rattle.expression.specs.Evaluate.{word_nodes}
use Rattle.expression.proofs.Format.{Listed, expression_gives}
use Rattle.sheet.specs.Sheet.{words_most, clocks_most, links_most}
use Rattle.sheet.specs.Reader.{read_sheet}
use Rattle.sheet.specs.SheetRead.{ClockNode, node_of_clock}
use Rattle.sheet.specs.Format.{many, counted, bits, word_row, clock_row, link_row, sheet, Refused, Refused.too_long, Refused.faulty, Refused.bytes_after}
use Rattle.sheet.proofs.Refusing.Format.{refused_listed}

many_gives : {A : Type 0} (row : List A → Format A) → ((xs : List A) → Gives Listed (row xs)) → (n : ℕ) (xs : List A) → Gives Listed (many row n xs)
unfolding many
many_gives row h zero xs = tt
many_gives row h (suc n) xs = (h xs, λ x. many_gives row h n (xs ++ (x ∷ [])))

counted_gives : {A : Type 0} (row : List A → Format A) → ((xs : List A) → Gives Listed (row xs)) → (most : ℕ) → Gives Listed (counted row most)
unfolding counted
counted_gives row h most = (gives_ranged Listed 2 0 (most + 1) beyond refl, λ n. many_gives row h n [])

bits_gives : (n : ℕ) → Gives Listed (bits n)
unfolding bits
bits_gives zero = tt
bits_gives (suc n) = (gives_ranged Listed 1 0 2 unknown refl, λ b. (bits_gives n, λ bs. tt))

word_gives : Gives Listed word_row
unfolding word_row
word_gives = (
  gives_ranged Listed 1 0 (bits_most + 1) beyond refl,
  λ p. (
    gives_ranged Listed 1 1 (bits_most + 1) beyond refl,
    λ q. (bits_gives p, λ u. ((bits_gives q, λ v. fails_cond Listed (leb 1 (ones_in v)) (passes v) no_one tt refl), λ v. tt)),
  ),
)

clock_gives : (ws : List Node) (rows : List ClockNode) → Gives Listed (clock_row ws rows)
unfolding clock_row
clock_gives ws rows = (gives_ranged Listed 1 0 2 unknown refl, λ state. (expression_gives depth_most ws (map node_of_clock rows), λ x. tt))

link_gives : (n : ℕ) → Gives Listed (link_row n)
unfolding link_row
link_gives n = (gives_ranged Listed 2 0 n absent refl, λ p. (gives_ranged Listed 2 0 n absent refl, λ q. tt))

sheet_gives : Gives Listed sheet
unfolding sheet
sheet_gives = (
  counted_gives _ (λ xs. word_gives) words_most,
  λ ws. (
    counted_gives _ (clock_gives (word_nodes ws)) clocks_most,
    λ rows. (counted_gives _ (λ xs. link_gives (length rows)) links_most, λ ls. tt),
  ),
)

listed : (s : List ℕ) {number place : ℕ} → Refused s number place → Listed number
listed s (too_long l) = refl
listed s (faulty {number = number} {place = place} l h) = fault_gives s Listed refl sheet 0 number place sheet_gives h
listed s (bytes_after o l h n) = refl

pub one_to_ten : (s : List ℕ) (number place : ℕ) → read_sheet s ≡ refused number place → (1 ≤ number) × (number ≤ trailing)
one_to_ten s number place h =
    let b = both_true (leb 1 number) (leb number trailing) (listed s (refused_listed s number place h)) in
    (leb-true 1 number b.0, leb-true number trailing b.1)
