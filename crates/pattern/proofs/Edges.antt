-- The edges of a taken envelope: where the upper one holds, where it is passed, and that the lower one then holds. What walks and streams need of them.
-- Assumes nothing.
use Prim.Native.Nat.{ℕ, suc, ◌+◌, ◌*◌, ◌≤◌, ◌<◌}
use native.Mathlib.Nat.{mul-suc, mul-zero, one-mul, mul-le-mul_left, mul-le-mul_right}
use native.Mathlib.Omega.{arith}
use mathlib.Core.Path.{◌≡◌}
use mathlib.Core.Bool.{false}
use lib.IntN.{pos, ◌+ℤ◌}
use lib.Signed.{le_z_yes, ◌≤ℤ◌}
use lib.Dec.{T}
use Rattle.whole.proofs.Bridge.{up, sum, diff, ≤ℤ-reads, ≤ℤ-shows}
use Rattle.envelope.specs.declared.Envelope.{Envelope}
use Rattle.envelope.specs.Envelope.{Taken}
use Rattle.pattern.specs.Step.{low, high}
use Rattle.judging.proofs.Offsets.{le_z_false}

module _ (e : Envelope) where
  pub low_reads : (i j : ℕ) → T (low e i j) → (pos (e.l * j) +ℤ e.k) ≤ℤ pos (e.n * i)
  unfolding low
  low_reads i j t = le_z_yes t

  pub high_reads : (i j : ℕ) → T (high e i j) → pos (e.n * i) ≤ℤ (pos (e.l * j) +ℤ e.K)
  unfolding high
  high_reads i j t = le_z_yes t

  pub low_shows : (i j : ℕ) → (pos (e.l * j) +ℤ e.k) ≤ℤ pos (e.n * i) → T (low e i j)
  unfolding low
  low_shows i j h = h.le

  pub high_shows : (i j : ℕ) → pos (e.n * i) ≤ℤ (pos (e.l * j) +ℤ e.K) → T (high e i j)
  unfolding high
  high_shows i j h = h.le

  pub sooner : (i h j : ℕ) → i ≤ h → T (high e h j) → T (high e i j)
  sooner i h j k t = high_shows i j (≤ℤ-shows (omega (arith, ≤ℤ-reads (high_reads h j t), mul-le-mul_left e.n k)))

  module _ (t : Taken e) where
    pub sloped : (i j : ℕ) → T (high e i j) → T (high e (suc i) (suc j))
    sloped i j h =
        high_shows (suc i) (suc j)
        (≤ℤ-shows
        (omega (arith, ≤ℤ-reads (high_reads i j h), sum (pos (e.l * j)) e.K, sum (pos (e.l * suc j)) e.K, mul-suc e.n i, mul-suc e.l j, t.n_most)))

    pub roomy : (i j : ℕ) → high e (suc i) j ≡ false → T (low e i j)
    unfolding high
    roomy i j h =
        low_shows i j
        (≤ℤ-shows
        (omega (arith, le_z_false (pos (e.n * suc i)) (pos (e.l * j) +ℤ e.K) h, ≤ℤ-reads t.room, sum (pos (e.l * j)) e.K, sum (pos (e.l * j)) e.k, diff e.K e.k, mul-suc e.n i, t.n_least)))

    pub origin : T (high e 0 0)
    origin =
        high_shows 0 0
        (≤ℤ-shows (omega (arith, ≤ℤ-reads t.limits.K_least, sum (pos (e.l * 0)) e.K, mul-zero e.n, mul-zero e.l)))

    -- with c 1s behind, the upper edge is passed here
    abbrev pub ends : ℕ → ℕ
    ends c = suc (e.l * c + up e.K)

    pub passes : (i c : ℕ) → T (high e i c) → i < ends c
    passes i c h =
        omega (arith, ≤ℤ-reads (high_reads i c h), sum (pos (e.l * c)) e.K, one-mul i, mul-le-mul_right i t.n_least)
