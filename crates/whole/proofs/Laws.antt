-- The laws of this crate hold.
-- Assumes nothing.
use Prim.Native.Nat.{ℕ, ◌<◌}
use native.Mathlib.Nat.{le_of_dvd}
use native.Mathlib.Omega.{arith}
use lib.IntN.{ℤ}
use Rattle.whole.specs.Laws.{RoundsDown, RoundsUp, Whole}
use Rattle.whole.proofs.Rounding.{floor_low, floor_high, floor_greatest, floor_only, ceil_high, ceil_low, ceil_least, ceil_only}
use Rattle.whole.proofs.Euclid.{gcd_is, gcd_pos, gcd_only, gcd_coprime, reaches, remainders_none, remainders_step}

rounds_down : (x : ℤ) (d : ℕ) → 0 < d → RoundsDown x d
rounds_down x d h =
    record {
      at_most = floor_low x d h;
      near = floor_high x d h;
      greatest = λ z. floor_greatest x z d h;
      only = λ z. floor_only x z d h;
    }

rounds_up : (x : ℤ) (d : ℕ) → 0 < d → RoundsUp x d
rounds_up x d h =
    record {
      at_least = ceil_high x d h;
      near = ceil_low x d h;
      least = λ z. ceil_least x z d h;
      only = λ z. ceil_only x z d h;
    }

pub whole : Whole
whole =
    record {
      down = rounds_down;
      up = rounds_up;
      divides = gcd_is;
      greatest = λ a b c h p q. le_of_dvd (gcd_pos a b h) ((gcd_is a b).most c p q);
      only = λ a b g p. gcd_only p (gcd_is a b);
      coprime = gcd_coprime;
      reached = reaches;
      none_taken = remainders_none;
      one_taken = λ a b h. omega (arith, remainders_step a b h);
    }
