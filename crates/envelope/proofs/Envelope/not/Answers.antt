-- `Envelope::not` meets its contract.
-- Assumes nothing.
use mathlib.Core.Path.{◌≡◌, ap, ap₂, ◌∙◌}
use Prim.Native.Nat.{◌-◌}
use native.Mathlib.Omega.{arith}
use lib.IntN.{ℤ, pos, ◌-ℤ◌}
use mir.Syntax.{w64}
use mir.Val.{SFits, to_z, of_z}
use Rattle.envelope.specs.declared.Envelope.{Envelope}
use Rattle.whole.specs.Order.{larger}
use Rattle.envelope.specs.Envelope.{Limits, Taken, result_of, not_of}
use Rattle.whole.proofs.Bridge.{up_diff_le, down_diff_le, sfits_small}
use Rattle.whole.proofs.Machine.{told, back_by}
use Rattle.envelope.proofs.Held.{n_small, k_up, k_down, K_up, K_down, k_held, K_held, l_held, n_held}
use Rattle.envelope.proofs.Envelope.not.Goals as goal

module _ (e : Envelope) (t : Taken e) where
  limits : Limits e
  limits = t.limits

  low : SFits w64 (pos e.n -ℤ e.K)
  low =
      sfits_small
      (omega (arith, up_diff_le (pos e.n) e.K, down_diff_le (pos e.n) e.K, n_small e t, K_up e limits, K_down e limits))

  rest : SFits w64 (pos e.l -ℤ pos e.n)
  rest =
      sfits_small
      (omega (arith, up_diff_le (pos e.l) (pos e.n), down_diff_le (pos e.l) (pos e.n), n_small e t, limits.l_within))

  top : SFits w64 ((pos e.l -ℤ pos e.n) -ℤ e.k)
  top =
      let d : ℤ = pos e.l -ℤ pos e.n in
      sfits_small
      (omega (arith, up_diff_le d e.k, down_diff_le d e.k, up_diff_le (pos e.l) (pos e.n), down_diff_le (pos e.l) (pos e.n), n_small e t, limits.l_within, k_up e limits, k_down e limits))

  -- l - n, as the machine has it
  rest_held : to_z w64 (of_z w64 (to_z w64 e.l -ℤ to_z w64 e.n)) ≡ pos e.l -ℤ pos e.n
  rest_held = back_by ◌-ℤ◌ (l_held e limits) (n_held e t) rest

  -- what `result` is handed makes the definition's envelope
  made : (k K x : ℤ) (r : Envelope) → k ≡ pos e.n -ℤ e.K → K ≡ larger (pos 0) x → x ≡ (pos e.l -ℤ pos e.n) -ℤ e.k → r ≡ result_of k K e.l (e.l - e.n) → r ≡ not_of e
  unfolding not_of
  made k K x r p q s h =
      h ∙ ap₂ (λ (y z : ℤ). result_of y z e.l (e.l - e.n)) p (q ∙ ap (larger (pos 0)) s)

pub returns : goal.returns
returns c = let e = c.args.self in
    let t = c.requires.0 in
    made e t _ _ _ _
    (back_by ◌-ℤ◌ (n_held e t) (K_held e t.limits) (low e t))
    (told c.larger_of.result c.larger_of.type_inv ∙ c.larger_of.ensures)
    (back_by ◌-ℤ◌ (rest_held e t) (k_held e t.limits) (top e t))
    c.result.ensures
