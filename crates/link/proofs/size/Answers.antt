-- No difference leaves the type, and the size is not below 0.
use mathlib.Core.Path.{◌≡◌, ap, subst⁻¹}
use lib.IntN.{ℤ, nat_abs, ◌-ℤ◌}
use lib.Signed.{non_neg, yes_non_neg}
use lib.Dec.{T}
use mir.Syntax.{w64}
use mir.Val.{Fits, to_z, of_z}
use mir.Facts.{Fits-nat_abs}
use Rattle.whole.proofs.Machine.{told, fits_by, back_by}
use Rattle.envelope.proofs.Held.{k_held, K_held}
use Rattle.link.specs.Link.{size_of}
use Rattle.link.proofs.Links.{size_least}
use Rattle.link.proofs.Held.{less, high_fits, rest_fits, size_is}
use Rattle.link.proofs.size.Goals as goal
use Rattle.link.proofs.size.Goals.{After-ceil_div}

pub overflow_sub-f-2 : goal.overflow_sub-f-2
overflow_sub-f-2 c = let a = c.args in
    let s = c.requires.0 in
    let t = c.requires.1 in
    fits_by ◌-ℤ◌ (back_by ◌-ℤ◌ (K_held _ t.limits) (less a.e a.f s t) (high_fits a.e a.f s t)) (k_held _ s.limits) (rest_fits a.e a.f s t)

there : (c : After-ceil_div) → to_z w64 (of_z w64 c.ceil_div.result) ≡ size_of c.args.e c.args.f
there c = size_is c.args.e c.args.f c.requires.0 c.requires.1 c.ceil_div.result c.ceil_div.type_inv c.ceil_div.ensures

pub overflow_cast-result : goal.overflow_cast-result
overflow_cast-result c = let r = c.ceil_div in (
  subst⁻¹ (λ (x : ℤ). T (non_neg x)) (there (goal.at.overflow_cast-result c).After-ceil_div) (yes_non_neg (size_least _ _ c.requires.0 c.requires.1 c.requires.2)),
  subst⁻¹ (λ (x : ℤ). Fits w64 (nat_abs x)) (told r.result r.type_inv) (Fits-nat_abs {w = w64} {w' = w64} {z = r.result} tt (record { sfits = r.type_inv })),
)

pub returns : goal.returns
returns c = ap nat_abs (there (goal.at.returns c).After-ceil_div)
