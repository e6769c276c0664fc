-- `judging::height` meets its contract.
-- Assumes nothing.
use Rattle.std.proofs.Common.{◌≡◌, ◌*◌, ◌≤◌, drop, ℤ, pos, ◌+ℤ◌, ◌≤ℤ◌, sym, ap, ◌∙◌, subst, mul-le-mul, arith, to_z-of_z, w64, to_z, of_z}
use Rattle.std.proofs.lemmas.Option.{IfSome_then}
use Rattle.whole.proofs.Machine.{held}
use Rattle.envelope.specs.Limits.{l_most}
use Rattle.envelope.proofs.Held.{n_small, K_held}
use Rattle.judging.specs.Bytes.{longest}
use Rattle.judging.specs.Inner.Scan.{scanned, floor_of}
use Rattle.judging.proofs.Sweeps.{lead_from, not_less, plain_drop, rest_is}
use Rattle.judging.proofs.height.Goals as goal

pub sweep-requires-clause-taken : goal.sweep-requires-clause-taken
sweep-requires-clause-taken c = (c.requires.taken.0, rw (rest_is c.args.pattern.now c.leading-from.result) (plain_drop c.args.pattern.now c.leading-from.result c.requires.taken.2))

pub returns : goal.returns
returns c =
    let e = c.args.e in
    let p = c.args.pattern.now in
    let t = c.leading-from.result in
    let within : t ≤ longest = omega arith in
    let small : e.n * t ≤ l_most * longest = mul-le-mul (n_small e c.requires.taken.0) within in
    let start_held : to_z w64 (e.n * t) ≡ pos (e.n * t) = held _ (omega (arith, small)) in
    let low_held : to_z w64 (of_z w64 c.args.low) ≡ floor_of e = to_z-of_z c.ranges.low ∙ c.requires.low_value.0 in
    let not_above : to_z w64 (e.n * t) ≤ℤ e.K = subst (λ (z : ℤ). to_z w64 (e.n * t) ≤ℤ z) (K_held e c.requires.taken.0.limits) (not_less _ _ c.if-e-start.false) in
    let from : pos (e.n * t) ≡ pos c.above.result +ℤ floor_of e = sym start_held ∙ sym c.above.ensures ∙ ap (λ (z : ℤ). pos c.above.result +ℤ z) low_held in
    IfSome_then c.sweep.result c.sweep.ensures
    (λ x h. (
      h.0,
      lead_from e p t c.leading-from.ensures.number (subst (λ (z : ℤ). z ≤ℤ e.K) start_held not_above)
          ∙ ap (λ (d : ℤ). scanned e t d (drop t p)) from
          ∙ (rw (rest_is p t) at (h.1 t)),
    ))
