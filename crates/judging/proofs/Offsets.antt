-- How far an offset n*i - l*j is from 0, and what the machine holds of it and of the code's sums.
-- Assumes nothing.
use Rattle.std.proofs.Common.{◌≡◌, ℕ, zero, suc, ◌+◌, ◌*◌, ◌<◌, ◌≤◌, Bool, true, false, ℤ, pos, negsuc, ◌-ℤ◌, refl, ap, mul-zero, mul-one, arith, to_z-of_z, w64, SFits, to_z, of_z, leb-false}
use lib.Signed.{le_z}
use Rattle.whole.proofs.Bridge.{up, down, diff, up_neg, down_neg, whole_ext, le_z_true, ≤ℤ-shows, up_most, down_most, up_sum_le, down_sum_le, up_diff_le, down_diff_le, sfits_small}
use Rattle.envelope.specs.declared.Envelope.{Envelope}
use Rattle.envelope.specs.Envelope.{Taken}
use Rattle.envelope.specs.Limits.{l_most}
use Rattle.judging.specs.Bytes.{longest}
use Rattle.judging.specs.Inner.Scan.{Near, step_of, offset_after}

-- x is not at most y: y is below x
pub le_z_false : (x y : ℤ) → le_z x y ≡ false → up y + down x < up x + down y
le_z_false (pos a) (pos b) e = omega (arith, leb-false a b e)
le_z_false (pos a) (negsuc b) e = omega arith
le_z_false (negsuc a) (pos b) e = absurd (let w : ◌≡◌ {A = ℕ} 0 1 = cc in omega arith)
le_z_false (negsuc a) (negsuc b) e = omega (arith, leb-false b a e)

-- two tests of whole numbers that say the same
pub le_z_same : (x y u v : ℤ) → (up x + down y ≤ up y + down x → up u + down v ≤ up v + down u) → (up u + down v ≤ up v + down u → up x + down y ≤ up y + down x) → le_z x y ≡ le_z u v
le_z_same x y u v f g = go (le_z x y) (le_z u v) refl refl
  where
    go : (a b : Bool) → le_z x y ≡ a → le_z u v ≡ b → a ≡ b
    go true true p q = refl
    go false false p q = refl
    go true false p q = absurd (let h = le_z_false u v q in let k = f (le_z_true x y p) in omega arith)
    go false true p q = absurd (let h = le_z_false x y p in let k = g (le_z_true u v q) in omega arith)

-- ---- how far an offset is from 0
pub near_start : Near 0 (pos 0)
near_start = record { not_below = ≤ℤ-shows (omega (arith, up_neg (pos (l_most * 0)), down_neg (pos (l_most * 0)))); not_above = ≤ℤ-shows (omega arith) }

-- the bounds, as naturals
pub near_reads : (i : ℕ) (d : ℤ) → Near i d → (up d ≤ l_most * i) × (down d ≤ l_most * i)
near_reads i d h = (up_most h.not_above, down_most d (l_most * i) h.not_below)

pub near_shows : (i : ℕ) (d : ℤ) → up d ≤ l_most * i → down d ≤ l_most * i → Near i d
near_shows i d h k =
    record {
      not_below = ≤ℤ-shows (omega (arith, up_neg (pos (l_most * i)), down_neg (pos (l_most * i))));
      not_above = ≤ℤ-shows (omega arith);
    }

pub near_more : (i m : ℕ) (d : ℤ) → i ≤ m → Near i d → Near m d
near_more i m d h v = let r = near_reads i d v in near_shows m d (omega arith) (omega arith)

-- a step is at most this long
pub step_near : (e : Envelope) → Taken e → (b : ℕ) → (up (step_of e b) ≤ l_most) × (down (step_of e b) ≤ l_most)
step_near e t zero = (omega (arith, t.n_most, t.limits.l_within), omega arith)
step_near e t (suc b) = (
  omega (arith, up_diff_le (pos e.n) (pos e.l), t.n_most, t.limits.l_within),
  omega (arith, down_diff_le (pos e.n) (pos e.l), t.limits.l_within),
)

pub near_on : (e : Envelope) → Taken e → (i : ℕ) (d : ℤ) (b : ℕ) → Near i d → Near (suc i) (offset_after e d b)
near_on e t i d b v =
    let r = near_reads i d v in
    let s = step_near e t b in
    near_shows (suc i) (offset_after e d b)
    (omega (arith, up_sum_le d (step_of e b)))
    (omega (arith, down_sum_le d (step_of e b)))

-- ---- what the machine holds of an offset, and of the code's sums
pub near_held : (i : ℕ) (d : ℤ) → i ≤ longest → Near i d → to_z w64 (of_z w64 d) ≡ d
near_held i d h v = let r = near_reads i d v in to_z-of_z {w = w64} (sfits_small (omega arith))

pub step_fits : (e : Envelope) → Taken e → (b : ℕ) → SFits w64 (step_of e b)
step_fits e t b = let s = step_near e t b in sfits_small (omega arith)

-- l times a bit
pub product_most : (e : Envelope) → Taken e → (b : ℕ) → b ≤ 1 → e.l * b ≤ l_most
product_most e t zero h = omega (arith, mul-zero e.l)
product_most e t (suc zero) h = omega (arith, mul-one e.l, t.limits.l_within)
product_most e t (suc (suc b)) h = absurd (omega arith)

pub step_is : (e : Envelope) (b : ℕ) → b ≤ 1 → pos e.n -ℤ pos (e.l * b) ≡ step_of e b
step_is e zero h = whole_ext (omega (arith, diff (pos e.n) (pos (e.l * 0)), mul-zero e.l))
step_is e (suc zero) h = ap (λ (k : ℕ). pos e.n -ℤ pos k) (mul-one e.l)
step_is e (suc (suc b)) h = absurd (omega arith)
