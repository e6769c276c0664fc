-- Which bytes are figures. Assumes nothing.
use mathlib.Core.Path.{◌≡◌, refl}
use mathlib.Core.Bool.{Bool, true, false, cond}
use mathlib.Core.List.{List, [], ◌∷◌, ◌++◌}
use Prim.Native.Nat.{ℕ, ◌≤◌, ◌<◌}
use native.Mathlib.Omega.{arith}
use borrow.Author.Tests.{lt-ltb, le-ltb, le-leb, lt-leb, ltb-false, leb-true}
use lib.Dec.{leb, ltb}
use Rattle.line.specs.Text.{figure}
use Rattle.line.specs.Promise.{is_figure, all_figures}

cond_same : {A : Type 0} (t : Bool) (x : A) → cond t x x ≡ x
cond_same true x = refl
cond_same false x = refl

pub below_figures : (b : ℕ) → b < figure 0 → is_figure b ≡ false
below_figures b h = rw (lt-ltb b (figure 0) h)

pub above_figures : (b : ℕ) → figure 9 < b → is_figure b ≡ false
above_figures b h = rw (lt-leb b (figure 9) h) (cond_same (ltb b (figure 0)) false)

pub is_figure_lem : (b : ℕ) → figure 0 ≤ b → b ≤ figure 9 → is_figure b ≡ true
is_figure_lem b h k = rw (le-ltb b (figure 0) h, le-leb b (figure 9) k)

-- the first of figures, and the others
pub record Figures (b : ℕ) (t : List ℕ) : Type 0 where
  pub least : figure 0 ≤ b
  pub most : b ≤ figure 9
  pub others : all_figures t ≡ true

pub figures : (b : ℕ) (t : List ℕ) → all_figures (b ∷ t) ≡ true → Figures b t
unfolding all_figures
figures b t e = go (ltb b (figure 0)) (leb b (figure 9)) refl refl e
  where
    go : (x y : Bool) → ltb b (figure 0) ≡ x → leb b (figure 9) ≡ y → cond (cond x false y) (all_figures t) false ≡ true → Figures b t
    go true y p q e = let w : ◌≡◌ {A = ℕ} 0 1 = cc in absurd (omega arith)
    go false true p q e = record { least = ltb-false b (figure 0) p; most = leb-true b (figure 9) q; others = e }
    go false false p q e = let w : ◌≡◌ {A = ℕ} 0 1 = cc in absurd (omega arith)

-- one figure more, before or after
pub figure_first : (b : ℕ) (t : List ℕ) → figure 0 ≤ b → b ≤ figure 9 → all_figures t ≡ true → all_figures (b ∷ t) ≡ true
unfolding all_figures
figure_first b t h k f = rw (is_figure_lem b h k) f

pub figure_last : (t : List ℕ) (d : ℕ) → figure 0 ≤ d → d ≤ figure 9 → all_figures t ≡ true → all_figures (t ++ (d ∷ [])) ≡ true
unfolding all_figures
figure_last [] d h k f = figure_first d [] h k refl
figure_last (b ∷ t) d h k f = let r = figures b t f in figure_first b (t ++ (d ∷ [])) r.least r.most (figure_last t d h k r.others)
