-- The edges of a taken envelope fit 32 bits.
use mathlib.Core.Path.{◌≡◌}
use Prim.Native.Nat.{◌+◌, ◌-◌}
use native.Mathlib.Omega.{arith}
use mir.Syntax.{w32}
use mir.Val.{SFits}
use mir.Facts.{to_z-of_z}
use Rattle.whole.proofs.Bridge.{sfits_small}
use Rattle.envelope.proofs.Held.{k_up, k_down, K_up, K_down, k_held, K_held}
use Rattle.expression.proofs.entry.Entry.of.Goals as goal

pub invariant_of-result : goal.invariant_of-result
invariant_of-result c =
    let h = c.requires.limits in
    let k_fits : SFits w32 c.args.x.envelope.k = sfits_small (omega (arith, k_up _ h, k_down _ h)) in
    let K_fits : SFits w32 c.args.x.envelope.K = sfits_small (omega (arith, K_up _ h, K_down _ h)) in
    let l_back : c.args.x.envelope.l - 1 + 1 ≡ c.args.x.envelope.l = omega (arith, c.requires.n_least, c.requires.n_most) in
    let n_back : c.args.x.envelope.n - 1 + 1 ≡ c.args.x.envelope.n = omega (arith, c.requires.n_least) in
    rw (k_held _ h, K_held _ h, to_z-of_z k_fits, to_z-of_z K_fits, l_back, n_back) c.requires
