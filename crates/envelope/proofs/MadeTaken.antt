-- Where a rule makes a node of taken parts, the node is taken. Assumes nothing.
use mathlib.Core.Path.{◌≡◌, refl, sym, subst}
use Prim.Native.Nat.{◌<◌}
use Rattle.std.specs.Prelude.{Ok, Err, IfOk}
use Rattle.envelope.specs.declared.Envelope.{Envelope}
use Rattle.envelope.specs.declared.Node.{Node}
use Rattle.envelope.specs.Envelope.{Limits, Taken, not_of, on_of}
use Rattle.envelope.specs.Made.{Made, limited, on_within_limits}
use Rattle.envelope.proofs.Makings.{limited_good}
use Rattle.envelope.proofs.Taken.{not_taken, on_taken}

-- within its limits an envelope is taken: so it is where it was tested
limited_made : (e : Envelope) → (Limits e → Taken e) → IfOk (limited e) (λ x. Taken x.envelope)
limited_made e taken = go (limited e) refl
  where
    go : (m : Made) → limited e ≡ m → IfOk m (λ x. Taken x.envelope)
    go (Ok x) h = let p = limited_good e h in subst (λ (y : Node). Taken y.envelope) (sym p.0) (taken p.1)
    go (Err f) h = tt

pub not_made : (e : Envelope) → Taken e → e.n < e.l → IfOk (limited (not_of e)) (λ x. Taken x.envelope)
not_made e t less = limited_made (not_of e) (not_taken e t less)

pub on_made : (e f : Envelope) → Taken e → Taken f → IfOk (on_within_limits e f) (λ x. Taken x.envelope)
unfolding on_within_limits
on_made e f s t = limited_made (on_of e f) (on_taken e f s t)
