-- What the one place through which every result goes does to it. At l = n = 1 a lower edge below 0 becomes 0: p(j) is at least j, since j 1s
-- stand before it, so no stream is lost or gained; no limit is passed; and nothing is left to raise.
-- Assumes nothing.
use mathlib.Core.Path.{◌≡◌, refl, ap}
use mathlib.Core.Bool.{Bool, true, false, cond}
use Prim.Native.Nat.{ℕ, ◌*◌}
use native.Mathlib.Omega.{arith}
use lib.IntN.{ℤ, pos}
use lib.Signed.{◌≤ℤ◌}
use Rattle.whole.proofs.Bridge.{sum, orders}
use Rattle.envelope.specs.declared.Envelope.{Envelope}
use Rattle.envelope.specs.Stream.{Within, Keeps}
use Rattle.envelope.specs.Envelope.{numbers, Limits, before_start, result_of}
use Rattle.envelope.proofs.Counts.{ones_most}
use Rattle.envelope.proofs.Tests.{is_before, not_before}

module _ (k K : ℤ) (l n : ℕ) where
  -- what holds of both is so of the result
  by_start : (P : Envelope → Type 0) → (before_start k l n ≡ true → P (numbers (pos 0) K l n)) → (before_start k l n ≡ false → P (numbers k K l n)) → P (result_of k K l n)
  unfolding result_of
  by_start P before after = go (before_start k l n) refl
    where
      go : (b : Bool) → before_start k l n ≡ b → P (cond b (numbers (pos 0) K l n) (numbers k K l n))
      go true h = before h
      go false h = after h

  pub result_l : (result_of k K l n).l ≡ l
  result_l = by_start (λ e. e.l ≡ l) (λ h. refl) (λ h. refl)

  pub result_n : (result_of k K l n).n ≡ n
  result_n = by_start (λ e. e.n ≡ n) (λ h. refl) (λ h. refl)

  pub result_keeps : (b : ℕ → Bool) → Within b k K l n → Keeps b (result_of k K l n)
  result_keeps b w =
      by_start (Keeps b)
      (λ h.
      let s = is_before k l n h in
      record {
        low = λ j t p. omega (arith, orders, sum (pos (l * j)) (pos 0), ap (λ (x : ℕ). x * j) s.0, ap (λ (x : ℕ). x * t) s.1, p.before, ones_most b t);
        high = w.high;
      })
      (λ h. w)

  pub keeps_result : (b : ℕ → Bool) → Keeps b (result_of k K l n) → Within b k K l n
  keeps_result b =
      by_start (λ e. Keeps b e → Within b k K l n)
      (λ h w.
      record {
        low = λ j t p. omega (arith, orders, sum (pos (l * j)) (pos 0), sum (pos (l * j)) k, w.low j t p, (is_before k l n h).2);
        high = w.high;
      })
      (λ h w. w)

  pub result_limits : Limits (numbers k K l n) → Limits (result_of k K l n)
  result_limits m =
      by_start Limits
      (λ h. record { l_within = m.l_within; k_least = record { le = tt }; k_most = record { le = tt }; K_least = m.K_least; K_most = m.K_most })
      (λ h. m)

  pub result_rate_one : (result_of k K l n).l ≡ 1 → (result_of k K l n).n ≡ 1 → pos 0 ≤ℤ (result_of k K l n).k
  result_rate_one =
      by_start (λ e. e.l ≡ 1 → e.n ≡ 1 → pos 0 ≤ℤ e.k) (λ h p q. record { le = tt }) (not_before k l n)
