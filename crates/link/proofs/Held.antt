-- What the machine holds on the way to a link's verdict and size.
-- Assumes nothing.
use mathlib.Core.Path.{◌≡◌, ap, ap₂, ◌∙◌}
use Prim.Native.Nat.{◌-◌, ◌<◌, ◌^◌}
use native.Mathlib.Omega.{arith}
use lib.IntN.{ℤ, pos, ◌-ℤ◌}
use lib.Signed.{lt_z, mag}
use mir.Syntax.{w64}
use mir.Val.{SFits, to_z, of_z}
use Rattle.whole.specs.Rounding.{ceil_div}
use Rattle.whole.proofs.Bridge.{signed, diff, up_diff_le, down_diff_le, sfits_small}
use Rattle.whole.proofs.Machine.{told, one_is, back_by}
use Rattle.envelope.specs.declared.Envelope.{Envelope}
use Rattle.envelope.specs.Envelope.{Taken}
use Rattle.envelope.proofs.Held.{k_up, k_down, K_up, K_down, k_held, K_held, n_held, n_small}
use Rattle.link.specs.Link.{size_of, early_of}

module _ (e f : Envelope) (s : Taken e) (t : Taken f) where
  pub less_fits : SFits w64 (pos e.n -ℤ pos 1)
  less_fits = sfits_small (omega (arith, n_small e s, up_diff_le (pos e.n) (pos 1), down_diff_le (pos e.n) (pos 1)))

  -- n - 1
  pub less : to_z w64 (of_z w64 (to_z w64 e.n -ℤ pos 1)) ≡ pos (e.n - 1)
  less =
      let d : pos e.n -ℤ pos 1 ≡ pos (e.n - 1) = omega (arith, signed, diff (pos e.n) (pos 1), s.n_least) in
      back_by ◌-ℤ◌ (n_held e s) one_is less_fits ∙ d

  -- K1 - k2
  pub gap_fits : SFits w64 (e.K -ℤ f.k)
  gap_fits =
      sfits_small (omega (arith, up_diff_le e.K f.k, down_diff_le e.K f.k, k_up f t.limits, k_down f t.limits, K_up e s.limits, K_down e s.limits))

  pub early_is : lt_z (to_z w64 (of_z w64 (to_z w64 e.n -ℤ pos 1))) (to_z w64 (of_z w64 (to_z w64 (of_z w64 e.K) -ℤ to_z w64 (of_z w64 f.k)))) ≡ early_of e f
  unfolding early_of
  early_is = ap₂ lt_z less (back_by ◌-ℤ◌ (K_held e s.limits) (k_held f t.limits) gap_fits)

  -- K2 - (n - 1)
  pub high_fits : SFits w64 (f.K -ℤ pos (e.n - 1))
  high_fits =
      sfits_small (omega (arith, n_small e s, up_diff_le f.K (pos (e.n - 1)), down_diff_le f.K (pos (e.n - 1)), K_up f t.limits, K_down f t.limits))

  -- K2 - (n - 1) - k1
  pub rest_fits : SFits w64 ((f.K -ℤ pos (e.n - 1)) -ℤ e.k)
  rest_fits =
      let d : ℤ = f.K -ℤ pos (e.n - 1) in
      sfits_small (omega (arith, n_small e s, up_diff_le d e.k, down_diff_le d e.k, up_diff_le f.K (pos (e.n - 1)), down_diff_le f.K (pos (e.n - 1)), K_up f t.limits, K_down f t.limits, k_up e s.limits, k_down e s.limits))

  -- the result of ceil_div is the size
  pub size_is : (r : ℤ) → mag r < 2 ^ 63 → r ≡ ceil_div (to_z w64 (of_z w64 (to_z w64 (of_z w64 (to_z w64 (of_z w64 f.K) -ℤ to_z w64 (of_z w64 (to_z w64 e.n -ℤ pos 1)))) -ℤ to_z w64 (of_z w64 e.k)))) e.l → to_z w64 (of_z w64 r) ≡ size_of e f
  unfolding size_of
  size_is r p q =
      told r p ∙ q ∙ ap (λ (z : ℤ). ceil_div z e.l) (back_by ◌-ℤ◌ (back_by ◌-ℤ◌ (K_held f t.limits) less high_fits) (k_held e s.limits) rest_fits)
