-- Whole numbers for `omega`, which reads naturals alone. A whole number z is `up z` less `down z`, of which one is 0.
-- Sums, differences, products by a natural and orders of whole numbers are stated as ones of those two naturals.
-- Assumes nothing.
use mathlib.Core.Path.{◌≡◌, refl, sym, ap, ◌∙◌, subst}
use mathlib.Core.Bool.{Bool, true, false, not, cond}
use Prim.Native.Nat.{ℕ, zero, suc, pred, ◌+◌, ◌-◌, ◌*◌, ◌^◌, ◌≤◌, ◌<◌}
use native.Mathlib.Nat.{zero-mul}
use native.Mathlib.Omega.{arith}
use lib.IntN.{ℤ, pos, negsuc, neg_ℤ, ◌+ℤ◌, ◌-ℤ◌, ◌*ℤ◌, sub_ℕ}
use lib.Signed.{◌≤ℤ◌, ◌<ℤ◌, le_z, lt_z, lt_z_no}
use mir.Syntax.{Width}
use mir.Val.{SFits, hbits}
use lib.Dec.{T, ltb, leb→le, le→leb, ltb→lt, lt→ltb, nltb→le}

-- what z has above 0, and below 0
abbrev pub up : ℤ → ℕ
up (pos n) = n
up (negsuc n) = 0

abbrev pub down : ℤ → ℕ
down (pos n) = 0
down (negsuc n) = suc n

-- one of the two is 0
pub apart : (z : ℤ) → up z ≡ up z - down z
apart (pos n) = omega arith
apart (negsuc n) = omega arith

-- the parts of a number decide it
pub whole_ext : {x y : ℤ} → up x + down y ≡ up y + down x → x ≡ y
whole_ext {x = pos a} {y = pos b} h = ap pos (omega arith)
whole_ext {x = pos a} {y = negsuc b} h = absurd (omega arith)
whole_ext {x = negsuc a} {y = pos b} h = absurd (omega arith)
whole_ext {x = negsuc a} {y = negsuc b} h = ap negsuc (omega arith)

cond_ind : (c : Bool) (x y : ℤ) (P : ℤ → Type 0) → (T c → P x) → (T (not c) → P y) → P (cond c x y)
cond_ind true x y P f g = f tt
cond_ind false x y P f g = g tt

pub up_sub : (a b : ℕ) → up (sub_ℕ a b) ≡ a - b
up_sub a b =
    cond_ind (ltb a b) (negsuc (b - suc a)) (pos (a - b)) (λ z. up z ≡ a - b)
    (λ t. omega (arith, ltb→lt a b t)) (λ t. refl)

pub down_sub : (a b : ℕ) → down (sub_ℕ a b) ≡ b - a
down_sub a b =
    cond_ind (ltb a b) (negsuc (b - suc a)) (pos (a - b)) (λ z. down z ≡ b - a)
    (λ t. omega (arith, ltb→lt a b t)) (λ t. omega (arith, nltb→le a b t))

-- the sum
pub up_sum : (x y : ℤ) → up (x +ℤ y) ≡ (up x + up y) - (down x + down y)
up_sum (pos a) (pos b) = omega arith
up_sum (pos a) (negsuc b) = omega (arith, up_sub a (suc b))
up_sum (negsuc a) (pos b) = omega (arith, up_sub b (suc a))
up_sum (negsuc a) (negsuc b) = omega arith

pub down_sum : (x y : ℤ) → down (x +ℤ y) ≡ (down x + down y) - (up x + up y)
down_sum (pos a) (pos b) = omega arith
down_sum (pos a) (negsuc b) = omega (arith, down_sub a (suc b))
down_sum (negsuc a) (pos b) = omega (arith, down_sub b (suc a))
down_sum (negsuc a) (negsuc b) = omega arith

-- the sum, as one linear equation
pub sum : (x y : ℤ) → up (x +ℤ y) + (down x + down y) ≡ up x + up y + down (x +ℤ y)
sum x y = omega (arith, up_sum x y, down_sum x y)

-- the negation exchanges the two
pub up_neg : (x : ℤ) → up (neg_ℤ x) ≡ down x
up_neg (pos zero) = refl
up_neg (pos (suc n)) = refl
up_neg (negsuc n) = refl

pub down_neg : (x : ℤ) → down (neg_ℤ x) ≡ up x
down_neg (pos zero) = refl
down_neg (pos (suc n)) = refl
down_neg (negsuc n) = refl

-- the product by a natural
pub up_mul : (x : ℤ) (n : ℕ) → up (x *ℤ pos n) ≡ up x * n
up_mul (pos a) n = refl
up_mul (negsuc a) n = up_neg (pos (suc a * n)) ∙ sym (zero-mul n)

pub down_mul : (x : ℤ) (n : ℕ) → down (x *ℤ pos n) ≡ down x * n
down_mul (pos a) n = sym (zero-mul n)
down_mul (negsuc a) n = down_neg (pos (suc a * n))

-- the orders
pub ≤ℤ-reads : {x y : ℤ} → x ≤ℤ y → up x + down y ≤ up y + down x
≤ℤ-reads {x = pos a} {y = pos b} h = omega (arith, leb→le a b h.le)
≤ℤ-reads {x = pos a} {y = negsuc b} h = absurd h.le
≤ℤ-reads {x = negsuc a} {y = pos b} h = omega arith
≤ℤ-reads {x = negsuc a} {y = negsuc b} h = omega (arith, leb→le b a h.le)

pub ≤ℤ-shows : {x y : ℤ} → up x + down y ≤ up y + down x → x ≤ℤ y
≤ℤ-shows {x = pos a} {y = pos b} h = record { le = le→leb a b (omega arith) }
≤ℤ-shows {x = pos a} {y = negsuc b} h = absurd (omega arith)
≤ℤ-shows {x = negsuc a} {y = pos b} h = record { le = tt }
≤ℤ-shows {x = negsuc a} {y = negsuc b} h = record { le = le→leb b a (omega arith) }

pub <ℤ-reads : {x y : ℤ} → x <ℤ y → up x + down y < up y + down x
<ℤ-reads {x = pos a} {y = pos b} h = omega (arith, ltb→lt a b h.lt)
<ℤ-reads {x = pos a} {y = negsuc b} h = absurd h.lt
<ℤ-reads {x = negsuc a} {y = pos b} h = omega arith
<ℤ-reads {x = negsuc a} {y = negsuc b} h = omega (arith, ltb→lt b a h.lt)

pub <ℤ-shows : {x y : ℤ} → up x + down y < up y + down x → x <ℤ y
<ℤ-shows {x = pos a} {y = pos b} h = record { lt = lt→ltb a b (omega arith) }
<ℤ-shows {x = pos a} {y = negsuc b} h = absurd (omega arith)
<ℤ-shows {x = negsuc a} {y = pos b} h = record { lt = tt }
<ℤ-shows {x = negsuc a} {y = negsuc b} h = record { lt = lt→ltb b a (omega arith) }

-- what `simp` rewrites a fact of whole numbers' parts by, and what `omega` reads an order through
pub ruleset parts = (up_sum, down_sum, up_neg, down_neg, up_mul, down_mul)

pub ruleset orders = (≤ℤ-reads, ≤ℤ-shows, <ℤ-reads, <ℤ-shows, whole_ext)

-- ---- what fits a signed type, and a signed test, for `omega`
pub sfits_reads : {w : Width} {z : ℤ} → SFits w z → up z + pred (down z) < 2 ^ hbits w
sfits_reads {w} {z = pos n} h = omega (arith, h.sfits)
sfits_reads {w} {z = negsuc n} h = omega (arith, h.sfits)

pub sfits_shows : {w : Width} {z : ℤ} → up z + pred (down z) < 2 ^ hbits w → SFits w z
sfits_shows {w} {z = pos n} h = record { sfits = omega arith }
sfits_shows {w} {z = negsuc n} h = record { sfits = omega arith }

pub lt_z_true : (x y : ℤ) → lt_z x y ≡ true → up x + down y < up y + down x
lt_z_true x y e = <ℤ-reads {x = x} {y = y} (record { lt = subst T (sym e) tt })

pub lt_z_false : (x y : ℤ) → lt_z x y ≡ false → up y + down x ≤ up x + down y
lt_z_false x y e = ≤ℤ-reads {x = y} {y = x} (lt_z_no (subst (λ (t : Bool). T (not t)) (sym e) tt))

pub le_z_true : (x y : ℤ) → le_z x y ≡ true → up x + down y ≤ up y + down x
le_z_true x y e = ≤ℤ-reads {x = x} {y = y} (record { le = subst T (sym e) tt })

pub ruleset signed = (≤ℤ-reads, ≤ℤ-shows, <ℤ-reads, <ℤ-shows, whole_ext, sfits_reads, sfits_shows, lt_z_true, lt_z_false, le_z_true)

-- ---- bounds that ask `omega` for no case split
pub up_sum_le : (x y : ℤ) → up (x +ℤ y) ≤ up x + up y
up_sum_le x y = omega (arith, up_sum x y)

pub down_sum_le : (x y : ℤ) → down (x +ℤ y) ≤ down x + down y
down_sum_le x y = omega (arith, down_sum x y)

-- the difference, as one linear equation, and its bounds
pub diff : (x y : ℤ) → up (x -ℤ y) + (down x + up y) ≡ up x + down y + down (x -ℤ y)
diff x y = omega (arith, sum x (neg_ℤ y), up_neg y, down_neg y)

pub up_diff_le : (x y : ℤ) → up (x -ℤ y) ≤ up x + down y
up_diff_le x y = omega (arith, up_sum_le x (neg_ℤ y), up_neg y)

pub down_diff_le : (x y : ℤ) → down (x -ℤ y) ≤ down x + up y
down_diff_le x y = omega (arith, down_sum_le x (neg_ℤ y), down_neg y)

pub up_most : {x : ℤ} {n : ℕ} → x ≤ℤ pos n → up x ≤ n
up_most {x} {n} h = omega (arith, ≤ℤ-reads h, apart x)

pub down_most : (x : ℤ) (n : ℕ) → neg_ℤ (pos n) ≤ℤ x → down x ≤ n
down_most x n h = omega (arith, ≤ℤ-reads h, apart x, up_neg (pos n), down_neg (pos n))

pub sfits_small : {w : Width} {z : ℤ} → up z + down z < 2 ^ hbits w → SFits w z
sfits_small {w} {z} h = sfits_shows (omega arith)
