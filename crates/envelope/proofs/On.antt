-- On: a on b keeps to the envelope that the rule gives.
-- Assumes nothing.
use mathlib.Core.Path.{◌≡◌, refl, sym, ap, ◌∙◌}
use mathlib.Core.Logic.{◌⊎◌, inl, inr}
use mathlib.Core.Bool.{Bool, true, false, cond}
use Prim.Native.Nat.{ℕ, zero, suc, ◌+◌, ◌*◌, ◌≤◌, ◌<◌}
use native.Mathlib.Nat.{mul-le-mul_right, add-mul, mul_comm, mul_assoc, mul_right_comm}
use native.Mathlib.Numerals.{add-one}
use native.Mathlib.Omega.{arith}
use lib.IntN.{ℤ, pos, ◌+ℤ◌, ◌*ℤ◌}
use lib.Signed.{◌≤ℤ◌}
use Rattle.whole.proofs.Bridge.{up, down, sum, up_mul, down_mul, orders}
use Rattle.whole.proofs.Order.{which}
use Rattle.envelope.specs.declared.Envelope.{Envelope}
use Rattle.envelope.specs.Stream.{Stream, value, ones, Position, Within, Keeps, Has, on_bits}
use Rattle.envelope.specs.Envelope.{on_of}
use Rattle.envelope.proofs.Counts.{ones_one, ones_zero, ones_none}
use Rattle.envelope.proofs.Streams.{later}
use Rattle.envelope.proofs.Normal.{normal_keeps}

pub ones_on : (a b : ℕ → Bool) (t : ℕ) → ones (on_bits a b) t ≡ ones b (ones a t)
ones_on a b zero = ones_none (on_bits a b) ∙ sym (ap (ones b) (ones_none a) ∙ ones_none b)
ones_on a b (suc t) = go (which (a t)) (which (b (ones a t))) (ones_on a b t)
  where
    go : (a t ≡ true) ⊎ (a t ≡ false) → (b (ones a t) ≡ true) ⊎ (b (ones a t) ≡ false) → ones (on_bits a b) t ≡ ones b (ones a t) → ones (on_bits a b) (suc t) ≡ ones b (ones a (suc t))
    go (inl e) (inl f) ih =
        ones_one (on_bits a b) t (ap (λ (x : Bool). cond x (b (ones a t)) false) e ∙ f) ∙ ap (λ (i : ℕ). i + 1) ih
        ∙ sym (ap (ones b) (ones_one a t e ∙ add-one (ones a t)) ∙ ones_one b (ones a t) f)
    go (inl e) (inr f) ih =
        ones_zero (on_bits a b) t (ap (λ (x : Bool). cond x (b (ones a t)) false) e ∙ f) ∙ ih
        ∙ sym (ap (ones b) (ones_one a t e ∙ add-one (ones a t)) ∙ ones_zero b (ones a t) f)
    go (inr e) f ih =
        ones_zero (on_bits a b) t (ap (λ (x : Bool). cond x (b (ones a t)) false) e) ∙ ih ∙ sym (ap (ones b) (ones_zero a t e))

-- where a on b has a 1, a has one, and b has one at the place that it is read at
on_left : (a b : ℕ → Bool) (t : ℕ) → on_bits a b t ≡ true → a t ≡ true
on_left a b t e = go (a t) refl e
  where
    go : (x : Bool) → a t ≡ x → cond x (b (ones a t)) false ≡ true → x ≡ true
    go true p q = refl
    go false p q = q

on_right : (a b : ℕ → Bool) (t : ℕ) → on_bits a b t ≡ true → b (ones a t) ≡ true
on_right a b t e = go (a t) e
  where
    go : (x : Bool) → cond x (b (ones a t)) false ≡ true → b (ones a t) ≡ true
    go true q = q
    go false q = absurd (omega (arith, ap value q))

-- the bits of a on b have endlessly many 1s
pub on_stream : (a b : Stream) → (s : Stream) × Has s (on_bits a.bit b.bit)
on_stream a b = (record { bit = on_bits a.bit b.bit; endless = more }, λ t. refl)
  where
    more : (t : ℕ) → (u : ℕ) × (t ≤ u) × (on_bits a.bit b.bit u ≡ true)
    more t =
        let r : (v : ℕ) × (ones a.bit t ≤ v) × (b.bit v ≡ true) = b.endless (ones a.bit t) in
        let q : (u : ℕ) × (t ≤ u) × Position a.bit r.0 u = later a t r.0 r.1 in
        (q.0, q.1, ap (λ (x : Bool). cond x (b.bit (ones a.bit q.0)) false) q.2.is_one ∙ ap b.bit q.2.before ∙ r.2)

pub on_within : (a b : ℕ → Bool) (e f : Envelope) → Keeps a e → Keeps b f
    → Within (on_bits a b) (e.k *ℤ pos f.n +ℤ f.k *ℤ pos e.l) (e.K *ℤ pos f.n +ℤ f.K *ℤ pos e.l) (e.l * f.l) (e.n * f.n)
on_within a b e f p q =
    record {
      low = λ j t h. low_at e.l e.n f.l f.n e.k f.k j t (ones a t) (p.low _ t (left t h)) (q.low j _ (right j t h));
      high = λ j t h. high_at e.l e.n f.l f.n e.K f.K j t (ones a t) (p.high _ t (left t h)) (q.high j _ (right j t h));
    }
  where
    left : {j : ℕ} (t : ℕ) → Position (on_bits a b) j t → Position a (ones a t) t
    left t h = record { is_one = on_left a b t h.is_one; before = refl }

    right : (j t : ℕ) → Position (on_bits a b) j t → Position b j (ones a t)
    right j t h = record { is_one = on_right a b t h.is_one; before = sym (ones_on a b t) ∙ h.before }

    turn : (x y z : ℕ) → x * y * z ≡ z * y * x
    turn x y z = mul_comm (x * y) z ∙ ap (λ (i : ℕ). z * i) (mul_comm x y) ∙ sym (mul_assoc z y x)

    low_at : (l₁ n₁ l₂ n₂ : ℕ) (k₁ k₂ : ℤ) (j t u : ℕ) → (pos (l₁ * u) +ℤ k₁) ≤ℤ pos (n₁ * t) → (pos (l₂ * j) +ℤ k₂) ≤ℤ pos (n₂ * u) → (pos (l₁ * l₂ * j) +ℤ (k₁ *ℤ pos n₂ +ℤ k₂ *ℤ pos l₁)) ≤ℤ pos (n₁ * n₂ * t)
    low_at l₁ n₁ l₂ n₂ k₁ k₂ j t u p q =
        let x : (l₁ * u + up k₁) * n₂ ≤ (n₁ * t + down k₁) * n₂ = mul-le-mul_right n₂ (omega (arith, orders, sum (pos (l₁ * u)) k₁)) in
        let y : (l₂ * j + up k₂) * l₁ ≤ (n₂ * u + down k₂) * l₁ = mul-le-mul_right l₁ (omega (arith, orders, sum (pos (l₂ * j)) k₂)) in
        let k : ℤ = k₁ *ℤ pos n₂ +ℤ k₂ *ℤ pos l₁ in
        omega (arith, orders, x, y, sum (pos (l₁ * l₂ * j)) k, sum (k₁ *ℤ pos n₂) (k₂ *ℤ pos l₁), up_mul k₁ n₂, down_mul k₁ n₂, up_mul k₂ l₁, down_mul k₂ l₁, add-mul (l₁ * u) (up k₁) n₂, add-mul (n₁ * t) (down k₁) n₂, add-mul (l₂ * j) (up k₂) l₁, add-mul (n₂ * u) (down k₂) l₁, turn l₁ u n₂, mul_right_comm n₁ t n₂, mul_comm (l₂ * j) l₁, mul_assoc l₁ l₂ j)

    high_at : (l₁ n₁ l₂ n₂ : ℕ) (k₁ k₂ : ℤ) (j t u : ℕ) → pos (n₁ * t) ≤ℤ (pos (l₁ * u) +ℤ k₁) → pos (n₂ * u) ≤ℤ (pos (l₂ * j) +ℤ k₂) → pos (n₁ * n₂ * t) ≤ℤ (pos (l₁ * l₂ * j) +ℤ (k₁ *ℤ pos n₂ +ℤ k₂ *ℤ pos l₁))
    high_at l₁ n₁ l₂ n₂ k₁ k₂ j t u p q =
        let x : (n₁ * t + down k₁) * n₂ ≤ (l₁ * u + up k₁) * n₂ = mul-le-mul_right n₂ (omega (arith, orders, sum (pos (l₁ * u)) k₁)) in
        let y : (n₂ * u + down k₂) * l₁ ≤ (l₂ * j + up k₂) * l₁ = mul-le-mul_right l₁ (omega (arith, orders, sum (pos (l₂ * j)) k₂)) in
        let k : ℤ = k₁ *ℤ pos n₂ +ℤ k₂ *ℤ pos l₁ in
        omega (arith, orders, x, y, sum (pos (l₁ * l₂ * j)) k, sum (k₁ *ℤ pos n₂) (k₂ *ℤ pos l₁), up_mul k₁ n₂, down_mul k₁ n₂, up_mul k₂ l₁, down_mul k₂ l₁, add-mul (l₁ * u) (up k₁) n₂, add-mul (n₁ * t) (down k₁) n₂, add-mul (l₂ * j) (up k₂) l₁, add-mul (n₂ * u) (down k₂) l₁, turn l₁ u n₂, mul_right_comm n₁ t n₂, mul_comm (l₂ * j) l₁, mul_assoc l₁ l₂ j)

pub on_keeps : (a b : ℕ → Bool) (e f : Envelope) → 0 < e.n * f.n → Keeps a e → Keeps b f → Keeps (on_bits a b) (on_of e f)
unfolding on_of
on_keeps a b e f h p q = normal_keeps _ _ _ _ h (on_bits a b) (on_within a b e f p q)
