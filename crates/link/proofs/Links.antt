-- Why an accepted link serves: a read before its write would be a 1 of the consumer before the lower edge, and one word too many a write that is early
-- or a read that is late.
-- Assumes nothing.
use mathlib.Core.Path.{◌≡◌, refl, sym, ap, ◌∙◌, subst}
use mathlib.Core.Bool.{Bool, true, false, cond, ◌&&◌}
use Prim.Native.Nat.{ℕ, zero, suc, ◌+◌, ◌-◌, ◌*◌, ◌≤◌, ◌<◌}
use native.Mathlib.Nat.{mul-le-mul_left, mul-suc, mul-add, mul_comm, suc-mul, zero-mul, lt_of_not-le}
use native.Mathlib.Decide.{dec_le}
use native.Mathlib.Omega.{arith}
use lib.Dec.{eqb}
use lib.IntN.{ℤ, pos, negsuc, nat_abs, ◌+ℤ◌, ◌-ℤ◌, ◌*ℤ◌}
use lib.Signed.{◌≤ℤ◌}
use borrow.Author.Tests.{eqb-true}
use Rattle.whole.specs.Rounding.{ceil_div}
use Rattle.whole.proofs.Bridge.{sum, diff, up_mul, down_mul, orders, signed}
use Rattle.whole.proofs.Rounding.{ceil_high, mul_next}
use Rattle.envelope.specs.declared.Envelope.{Envelope}
use Rattle.envelope.specs.Envelope.{Taken}
use Rattle.envelope.specs.Stream.{Stream, ones, Within, Lies}
use Rattle.envelope.proofs.Counts.{earlier}
use Rattle.envelope.proofs.Streams.{later}
use Rattle.link.specs.declared.Verdict.TheVariants.{Accepted, Rates, Early}
use Rattle.link.specs.Link.{size_of, early_of, Passes, verdict_of}
use Rattle.link.specs.Promise.{Serves, Links}

-- the size is never below 0
pub size_least : (e f : Envelope) → Taken e → Taken f → Passes e f → pos 0 ≤ℤ size_of e f
unfolding size_of
size_least e f s t a =
    let x : ℤ = (f.K -ℤ pos (e.n - 1)) -ℤ e.k in
    let h : 0 < e.l = omega (arith, s) in
    let p : pos 0 ≤ℤ x = omega (arith, orders, diff (f.K -ℤ pos (e.n - 1)) e.k, diff f.K (pos (e.n - 1)), s.room, t.room, a.in_time, a.same_n, diff e.K f.k, diff e.K e.k, diff f.K f.k) in
    mul_next (pos 0) (ceil_div x e.l) e.l
    (omega (arith, orders, p, ceil_high x e.l h, sum (ceil_div x e.l *ℤ pos e.l) (pos e.l), up_mul (pos 0) e.l, down_mul (pos 0) e.l, zero-mul e.l))

-- ---- the two promises, of any two streams with one l and one n
module _ (a b : Stream) (k₁ K₁ k₂ K₂ : ℤ) (l n : ℕ) (w : Within a.bit k₁ K₁ l n) (r : Within b.bit k₂ K₂ l n) where
  reads_in_time : 1 ≤ n → (K₁ -ℤ k₂) ≤ℤ pos (n - 1) → (t : ℕ) → ones b.bit t ≤ ones a.bit t
  reads_in_time hn h t = go (dec_le (ones b.bit t) (ones a.bit t))
    where
      v : ℕ
      v = ones a.bit t

      -- a read with v before it, and then, at t or later, the write with v before it
      clash : (u x : ℕ) → u < t → t ≤ x → (pos (l * v) +ℤ k₂) ≤ℤ pos (n * u) → pos (n * x) ≤ℤ (pos (l * v) +ℤ K₁) → ⊥
      clash u x p q low high =
          omega (arith, orders, diff K₁ k₂, sum (pos (l * v)) k₂, sum (pos (l * v)) K₁, mul-suc n u, mul-le-mul_left n p, mul-le-mul_left n q)

      go : Dec (ones b.bit t ≤ ones a.bit t) → ones b.bit t ≤ ones a.bit t
      go (yes p) = p
      go (no f) =
          let e = earlier b.bit t v (lt_of_not-le f) in
          let g = later a t v (omega arith) in
          absurd (clash e.0 g.0 e.1 g.1 (r.low v e.0 (record { is_one = e.2; before = e.3 })) (w.high v g.0 g.2))

  -- m writes ahead after t instants, m above 0: the last of them was before t, and the next read comes at t or later
  ahead : (t m : ℕ) → ones a.bit t ≡ ones b.bit t + suc m → (pos (l * m) +ℤ k₁) ≤ℤ ((K₂ -ℤ pos n))
  ahead t m e =
      let R : ℕ = ones b.bit t in
      let u = earlier a.bit t (R + m) (omega arith) in
      let x = later b t R (omega arith) in
      close R u.0 x.0 u.1 x.1 (w.low (R + m) u.0 (record { is_one = u.2; before = u.3 })) (r.high R x.0 x.2)
    where
      close : (R u x : ℕ) → u < t → t ≤ x → (pos (l * (R + m)) +ℤ k₁) ≤ℤ pos (n * u) → pos (n * x) ≤ℤ (pos (l * R) +ℤ K₂) → (pos (l * m) +ℤ k₁) ≤ℤ (K₂ -ℤ pos n)
      close R u x p q low high =
          omega (arith, orders, diff K₂ (pos n), sum (pos (l * (R + m))) k₁, sum (pos (l * m)) k₁, sum (pos (l * R)) K₂, mul-add l R m, mul-suc n u, mul-le-mul_left n p, mul-le-mul_left n q)

-- ---- accepted: reads never exceed writes, and writes are at most the size ahead, after any number of instants
module _ (a b : Stream) (e f : Envelope) (s : Taken e) (t : Taken f) (ok : Passes e f) (p : Lies a e) (q : Lies b f) where
  q' : Within b.bit f.k f.K e.l e.n
  q' = subst (λ (m : ℕ). Within b.bit f.k f.K e.l m) (sym ok.same_n) (subst (λ (m : ℕ). Within b.bit f.k f.K m f.n) (sym ok.same_l) q)

  pub link_reads : (i : ℕ) → ones b.bit i ≤ ones a.bit i
  link_reads i = reads_in_time a b e.k e.K f.k f.K e.l e.n p q' s.n_least ok.in_time i

  -- the writes of i instants are at most `size` more than the reads
  pub link_size : (i : ℕ) → pos (ones a.bit i) ≤ℤ (pos (ones b.bit i) +ℤ size_of e f)
  unfolding size_of
  link_size i = go (ones a.bit i - ones b.bit i) refl
    where
      z : ℤ
      z = size_of e f

      go : (m : ℕ) → ones a.bit i - ones b.bit i ≡ m → pos (ones a.bit i) ≤ℤ (pos (ones b.bit i) +ℤ z)
      go zero h = omega (arith, orders, size_least e f s t ok, sum (pos (ones b.bit i)) z)
      go (suc m) h =
          let x : ℤ = (f.K -ℤ pos (e.n - 1)) -ℤ e.k in
          let hl : 0 < e.l = omega (arith, s) in
          let c : (pos (e.l * m) +ℤ e.k) ≤ℤ (f.K -ℤ pos e.n) = ahead a b e.k e.K f.k f.K e.l e.n p q' i m (omega arith) in
          let d : pos (suc m) ≤ℤ z =
          mul_next (pos (suc m)) z e.l
          (omega (arith, orders, c, s.n_least, sum (pos (e.l * m)) e.k, diff f.K (pos e.n), diff f.K (pos (e.n - 1)), diff (f.K -ℤ pos (e.n - 1)) e.k, ceil_high x e.l hl, sum (z *ℤ pos e.l) (pos e.l), suc-mul m e.l, mul_comm m e.l)) in
          omega (arith, orders, d, sum (pos (ones b.bit i)) z)

-- ---- the verdict
pub early_not : (e f : Envelope) → early_of e f ≡ false → (e.K -ℤ f.k) ≤ℤ pos (e.n - 1)
unfolding early_of
early_not e f h = omega (arith, signed)

pub accepted_is : (e f : Envelope) (size : ℕ) → verdict_of e f ≡ Accepted size → Passes e f × (size ≡ nat_abs (size_of e f))
unfolding verdict_of
accepted_is e f size h = go (eqb e.l f.l) (eqb e.n f.n) (early_of e f) refl refl refl h
  where
    go : (p q r : Bool) → eqb e.l f.l ≡ p → eqb e.n f.n ≡ q → early_of e f ≡ r
        → cond (p && q) (cond r Early (Accepted (nat_abs (size_of e f)))) Rates ≡ Accepted size → Passes e f × (size ≡ nat_abs (size_of e f))
    go true true false x y z w = (record { same_l = eqb-true _ _ x; same_n = eqb-true _ _ y; in_time = early_not e f z }, cc)
    go true true true x y z w = absurd (cc)
    go true false r x y z w = absurd (cc)
    go false q r x y z w = absurd (cc)

-- a number that is not below 0 is its own size
natural : (z : ℤ) → pos 0 ≤ℤ z → pos (nat_abs z) ≡ z
natural (pos n) h = refl
natural (negsuc n) h = absurd (omega (arith, orders))

pub links : Links
links = record { serves = serves; size = size_carried }
  where
    size_carried : (e f : Envelope) → Taken e → Taken f → (size : ℕ) → verdict_of e f ≡ Accepted size → pos size ≡ size_of e f
    size_carried e f s t size h =
        let v = accepted_is e f size h in
        ap pos v.1 ∙ natural (size_of e f) (size_least e f s t v.0)

    serves : (e f : Envelope) → Taken e → Taken f → (size : ℕ) → verdict_of e f ≡ Accepted size → (a b : Stream) → Lies a e → Lies b f → Serves a b size
    serves e f s t size h a b p q =
        let v = accepted_is e f size h in
        let z : pos size ≡ size_of e f = size_carried e f s t size h in
        record {
          reads = link_reads a b e f s t v.0 p q;
          fill = λ i. fill_at size (size_of e f) z (ones a.bit i) (ones b.bit i) (link_size a b e f s t v.0 p q i);
        }
      where
        fill_at : (size : ℕ) (z : ℤ) → pos size ≡ z → (w r : ℕ) → pos w ≤ℤ (pos r +ℤ z) → w ≤ r + size
        fill_at size z e w r h =
            let k : pos w ≤ℤ (pos r +ℤ pos size) = subst (λ (y : ℤ). pos w ≤ℤ (pos r +ℤ y)) (sym e) h in
            omega (arith, orders, sum (pos r) (pos size))
