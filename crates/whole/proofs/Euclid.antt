-- Laws of Euclid's method: it gives the greatest common divisor, what follows for two numbers with no common factor, and its count of remainders.
-- Assumes nothing.
use mathlib.Core.Path.{◌≡◌, refl, sym, ap, ◌∙◌, subst}
use Prim.Native.Nat.{ℕ, zero, suc, ◌+◌, ◌-◌, ◌*◌, ◌/◌, ◌%◌, ◌≤◌, ◌<◌, ◌∣◌}
use native.Mathlib.Nat.{mod-lt, dvd_refl, dvd-zero, dvd-mod_iff, dvd_antisymm, pos_of_dvd_of_pos, div-mul_cancel, mul-dvd-mul_right, dvd_of_mul-dvd-mul_right, dvd-one, one-mul, mul-one, mul_assoc, mul_left_comm, mul-add, add-mul, mul-sub, mul-le-mul_left, mul-le-mul_right, div-add-mod', zero-lt-suc}
use native.Mathlib.Omega.{arith}
use Rattle.whole.specs.Euclid.{euclid, gcd_of, remainders_of}
use Rattle.whole.specs.Laws.{IsGcd}

-- ---- it is one

euclid_is : (f a b : ℕ) → b < f → IsGcd a b (euclid f a b).divisor
unfolding euclid
euclid_is zero a b h = absurd (omega arith)
euclid_is (suc f) a zero h = record { left = dvd_refl a; right = dvd-zero a; most = λ c p q. p }
euclid_is (suc f) a (suc b) h =
    let s : IsGcd (suc b) (a % suc b) (euclid f (suc b) (a % suc b)).divisor = euclid_is f (suc b) (a % suc b) (omega (arith, mod-lt a (zero-lt-suc b))) in
    record { left = (dvd-mod_iff _ s.left).0 s.right; right = s.left; most = λ c p q. s.most c q ((dvd-mod_iff c q).1 p) }

pub gcd_is : (a b : ℕ) → IsGcd a b (gcd_of a b)
unfolding gcd_of
gcd_is a b = euclid_is (suc b) a b (omega arith)

-- and there is no other
pub gcd_only : {a b g h : ℕ} → IsGcd a b g → IsGcd a b h → g ≡ h
gcd_only {a} {b} {g} {h} p q = dvd_antisymm (q.most g p.left p.right) (p.most h q.left q.right)

-- ---- as the loop has it
pub gcd_zero : (a : ℕ) → gcd_of a 0 ≡ a
unfolding gcd_of euclid
gcd_zero a = refl

pub gcd_step : (a b : ℕ) → 0 < b → gcd_of b (a % b) ≡ gcd_of a b
gcd_step a b h =
    let s : IsGcd b (a % b) (gcd_of b (a % b)) = gcd_is b (a % b) in
    let t : IsGcd a b (gcd_of b (a % b)) = record { left = (dvd-mod_iff _ s.left).0 s.right; right = s.left; most = λ c p q. s.most c q ((dvd-mod_iff c q).1 p) } in
    gcd_only t (gcd_is a b)

pub gcd_comm : (a b : ℕ) → gcd_of a b ≡ gcd_of b a
gcd_comm a b =
    let s : IsGcd b a (gcd_of b a) = gcd_is b a in
    let t : IsGcd a b (gcd_of b a) = record { left = s.right; right = s.left; most = λ c p q. s.most c q p } in
    gcd_only (gcd_is a b) t

-- ---- where one of the two is above 0
pub gcd_pos : (a b : ℕ) → 0 < b → 0 < gcd_of a b
gcd_pos a b h = pos_of_dvd_of_pos (gcd_is a b).right h

-- divided by it, the two have no common factor above 1
pub gcd_coprime : (a b : ℕ) → 0 < b → gcd_of (a / gcd_of a b) (b / gcd_of a b) ≡ 1
gcd_coprime a b h =
    let g : ℕ = gcd_of a b in
    let s : IsGcd a b g = gcd_is a b in
    let t : IsGcd (a / g) (b / g) (gcd_of (a / g) (b / g)) = gcd_is (a / g) (b / g) in
    let k : ℕ = gcd_of (a / g) (b / g) in
    let l : k * g ∣ a = subst (λ (n : ℕ). k * g ∣ n) (div-mul_cancel g s.left) (mul-dvd-mul_right k t.left g) in
    let r : k * g ∣ b = subst (λ (n : ℕ). k * g ∣ n) (div-mul_cancel g s.right) (mul-dvd-mul_right k t.right g) in
    let m : k * g ∣ 1 * g = subst (λ (n : ℕ). k * g ∣ n) (sym (one-mul g)) (s.most (k * g) l r) in
    dvd-one.0 (dvd_of_mul-dvd-mul_right k (gcd_pos a b h) m)

-- ---- Bezout, in naturals

-- b * x ≡ a * y + g turned round: a * x' ≡ b * y' + g
turned : (a b g x y : ℕ) → 0 < a → 0 < b → b * x ≡ a * y + g → (x' : ℕ) × (y' : ℕ) × (a * x' ≡ b * y' + g)
turned a b g x y ha hb e =
    let t : ℕ = x + y in
    let p : x ≤ a * t = omega (arith, mul-le-mul_right t ha, one-mul t) in
    let q : y ≤ b * t = omega (arith, mul-le-mul_right t hb, one-mul t) in (
      b * t - y,
      a * t - x,
      omega (arith, e, mul-sub a (b * t) y, mul-sub b (a * t) x, mul_left_comm a b t, mul-le-mul_left b p, mul-le-mul_left a q),
    )

bezout_fuel : (f a b : ℕ) → b < f → 0 < a → (x : ℕ) × (y : ℕ) × (a * x ≡ b * y + (euclid f a b).divisor)
unfolding euclid
bezout_fuel zero a b h p = absurd (omega arith)
bezout_fuel (suc f) a zero h p = (1, 0, omega (arith, mul-one a))
bezout_fuel (suc f) a (suc b) h p = go (bezout_fuel f (suc b) (a % suc b) (omega (arith, mod-lt a (zero-lt-suc b))) (zero-lt-suc b))
  where
    go : (x : ℕ) × (y : ℕ) × (suc b * x ≡ (a % suc b) * y + (euclid f (suc b) (a % suc b)).divisor) → (x : ℕ) × (y : ℕ) × (a * x ≡ suc b * y + (euclid f (suc b) (a % suc b)).divisor)
    go s =
        let x : ℕ = s.0 in
        let y : ℕ = s.1 in
        let m : (a / suc b * suc b + a % suc b) * y ≡ a * y = ap (λ (n : ℕ). n * y) (div-add-mod' a (suc b)) in
        let e : a / suc b * suc b * y ≡ suc b * (a / suc b * y) = mul_assoc (a / suc b) (suc b) y ∙ mul_left_comm (a / suc b) (suc b) y in
        let k : suc b * (x + a / suc b * y) ≡ a * y + (euclid f (suc b) (a % suc b)).divisor =
        omega (arith, s.2, m, e, mul-add (suc b) x (a / suc b * y), add-mul (a / suc b * suc b) (a % suc b) y) in
        turned a (suc b) (euclid f (suc b) (a % suc b)).divisor (x + a / suc b * y) y p (zero-lt-suc b) k

pub bezout : (a b : ℕ) → 0 < a → (x : ℕ) × (y : ℕ) × (a * x ≡ b * y + gcd_of a b)
unfolding gcd_of
bezout a b h = bezout_fuel (suc b) a b (omega arith) h

-- with no common factor, n divides some l * j + c, whatever c is
pub reaches : (l n c : ℕ) → 0 < n → gcd_of l n ≡ 1 → (j : ℕ) × (m : ℕ) × (n * m ≡ l * j + c)
reaches l n c h e = go (bezout n l h)
  where
    go : (x : ℕ) × (y : ℕ) × (n * x ≡ l * y + gcd_of n l) → (j : ℕ) × (m : ℕ) × (n * m ≡ l * j + c)
    go s =
        let o : gcd_of n l ≡ 1 = gcd_comm n l ∙ e in
        let k : n * s.0 * c ≡ (l * s.1 + 1) * c = ap (λ (i : ℕ). i * c) (s.2 ∙ ap (λ (i : ℕ). l * s.1 + i) o) in (
          s.1 * c,
          s.0 * c,
          omega (arith, k, mul_assoc n s.0 c, mul_assoc l s.1 c, add-mul (l * s.1) 1 c, one-mul c),
        )

-- ---- how many remainders it takes

-- any two bounds that are enough agree
enough : (f g a b : ℕ) → b < f → b < g → (euclid f a b).remainders ≡ (euclid g a b).remainders
unfolding euclid
enough zero g a b p q = absurd (omega arith)
enough (suc f) zero a b p q = absurd (omega arith)
enough (suc f) (suc g) a zero p q = refl
enough (suc f) (suc g) a (suc b) p q =
    ap suc (enough f g (suc b) (a % suc b) (omega (arith, mod-lt a (zero-lt-suc b))) (omega (arith, mod-lt a (zero-lt-suc b))))

pub remainders_none : (a : ℕ) → remainders_of a 0 ≡ 0
unfolding remainders_of euclid
remainders_none a = refl

pub remainders_step : (a b : ℕ) → 0 < b → remainders_of a b ≡ suc (remainders_of b (a % b))
unfolding remainders_of euclid
remainders_step a zero h = absurd (omega arith)
remainders_step a (suc b) h = ap suc (enough (suc b) (suc (a % suc b)) (suc b) (a % suc b) (mod-lt a h) (omega arith))

most : (f a b : ℕ) → b < f → (euclid f a b).remainders ≤ b
unfolding euclid
most zero a b h = absurd (omega arith)
most (suc f) a zero h = omega arith
most (suc f) a (suc b) h =
    let m : a % suc b < suc b = mod-lt a (zero-lt-suc b) in
    omega (arith, m, most f (suc b) (a % suc b) (omega arith))

pub remainders_most : (a b : ℕ) → remainders_of a b ≤ b
unfolding remainders_of
remainders_most a b = most (suc b) a b (omega arith)
