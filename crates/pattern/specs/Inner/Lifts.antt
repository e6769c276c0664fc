-- What the loops of a walk find, by the offset d of a place, as `judging` has it: the smallest bits that may follow, and the last 0 that could be a 1.
use Rattle.std.specs.Prelude.{ℕ, zero, suc, cond, List, [], ◌∷◌, ℤ, pos, Option, Some, None}
use Rattle.envelope.specs.declared.Envelope.{Envelope}
use Rattle.pattern.specs.declared.Lift.{Lift}
use Rattle.judging.specs.Inner.Scan.{one_at, zero_at, offset_after}

-- the smaller bit that may follow, where one may
abbrev pub least_at : Envelope → ℤ → ℕ
least_at e d = cond (zero_at e d) 0 1

-- m bits, each the smaller that may follow
abbrev pub filled : Envelope → ℤ → ℕ → List ℕ
filled e d zero = []
filled e d (suc m) = least_at e d ∷ filled e (offset_after e d (least_at e d)) m

-- the offset past some bits, where d is that before them
abbrev pub reached : Envelope → ℤ → List ℕ → ℤ
reached e d [] = d
reached e d (b ∷ p) = reached e (offset_after e d b) p

-- the last 0 that could be a 1, after the bit b at place i, where m is that before it
abbrev pub lifted : Envelope → ℕ → ℤ → Option Lift → ℕ → Option Lift
lifted e i d m zero = cond (one_at e d) (Some (record { place = i; offset = d })) m
lifted e i d m (suc b) = m

-- that past some bits, where m is that at place i
abbrev pub last_lift : Envelope → ℕ → ℤ → Option Lift → List ℕ → Option Lift
last_lift e i d m [] = m
last_lift e i d m (b ∷ p) = last_lift e (suc i) (offset_after e d b) (lifted e i d m b) p

abbrev pub lift_of : Envelope → List ℕ → Option Lift
lift_of e p = last_lift e 0 (pos 0) None p
