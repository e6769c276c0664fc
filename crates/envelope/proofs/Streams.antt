-- Positions: every j has one in a stream, and one only; and bits that a stream has keep what the stream keeps.
-- Assumes nothing.
use mathlib.Core.Path.{◌≡◌, sym, ap, ◌∙◌, subst, fun_ext}
use mathlib.Core.Bool.{Bool, true}
use Prim.Native.Nat.{ℕ, zero, suc, ◌+◌, ◌-◌, ◌≤◌, ◌<◌}
use native.Mathlib.Numerals.{add-one}
use native.Mathlib.Omega.{arith}
use Rattle.envelope.specs.declared.Envelope.{Envelope}
use Rattle.envelope.specs.Stream.{Stream, ones, Position, Keeps, Lies, Has}
use Rattle.envelope.proofs.Counts.{ones_one, ones_none, ones_apart, first}

-- every j has its position, and one only
module _ (s : Stream) where
  from : (t : ℕ) → (u : ℕ) × (t ≤ u) × (s.bit u ≡ true) × (ones s.bit u ≡ ones s.bit t)
  from t =
      let r : (u : ℕ) × (t ≤ u) × (s.bit u ≡ true) = s.endless t in
      let h : t ≤ r.0 = r.1 in
      let e : t + (r.0 - t) ≡ r.0 = omega arith in
      first s.bit (r.0 - t) t (ap s.bit e ∙ r.2)

  pub position : (j : ℕ) → (t : ℕ) × Position s.bit j t
  position zero =
      let r = from 0 in
      (r.0, record { is_one = r.2; before = r.3 ∙ ones_none s.bit })
  position (suc j) =
      let q : (t : ℕ) × Position s.bit j t = position j in
      let r = from (suc q.0) in
      (r.0, record { is_one = r.2; before = r.3 ∙ ones_one s.bit q.0 q.1.is_one ∙ add-one (ones s.bit q.0) ∙ ap suc q.1.before })

  -- the position of the next 1, where v or fewer of the first t are 1
  pub later : (t v : ℕ) → ones s.bit t ≤ v → (u : ℕ) × (t ≤ u) × Position s.bit v u
  later t v h = go (position v)
    where
      past : (u : ℕ) → Position s.bit v u → u < t → ⊥
      past u p l = omega (arith, ones_apart s.bit u t p.is_one l, p.before)

      not_before : (u : ℕ) → ¬ (u < t) → t ≤ u
      not_before u f = omega arith

      go : (u : ℕ) × Position s.bit v u → (u : ℕ) × (t ≤ u) × Position s.bit v u
      go r = (r.0, not_before r.0 (past r.0 r.1), r.1)

pub position_only : (b : ℕ → Bool) (j t u : ℕ) → Position b j t → Position b j u → t ≡ u
position_only b j t u p q =
    let f : ¬ (t < u) = λ h. omega (arith, ones_apart b t u p.is_one h, p.before, q.before) in
    let g : ¬ (u < t) = λ h. omega (arith, ones_apart b u t q.is_one h, p.before, q.before) in
    omega arith

-- a stream that has bits which keep to e lies in e
pub has_lies : (s : Stream) (b : ℕ → Bool) (e : Envelope) → Has s b → Keeps b e → Lies s e
has_lies s b e h k = subst (λ (c : ℕ → Bool). Keeps c e) (sym (fun_ext h)) k
