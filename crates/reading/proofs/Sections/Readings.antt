-- Laws of loops over rows. Assumes nothing.
use mathlib.Core.Path.{◌≡◌, refl, sym, ap, ap₂, ◌∙◌}
use mathlib.Core.List.{List, [], ◌∷◌, ◌++◌}
use Prim.Native.Nat.{ℕ, zero, suc, ◌+◌, ◌-◌, ◌≤◌, ◌<◌}
use native.Mathlib.Nat.{sub-zero}
use native.Mathlib.Numerals.{sub-one}
use native.Mathlib.Omega.{arith}
use lib.ListN.{length, length-append}
use Rattle.reply.specs.Numbers.{beyond}
use Rattle.field.specs.Read.{Read, Read.got, Read.refused, bind}
use Rattle.field.specs.Field.{field_in}
use Rattle.field.proofs.Read.{through}
use Rattle.field.proofs.Fields.{field_there}
use Rattle.sheet.specs.Reader.{rows_at, section_at}

-- a refusal is the same refusal of whatever was to be read
pub refused_same : {A B : Type 0} (k q number place : ℕ) → ◌≡◌ {A = Read A} (refused k q) (refused number place) → ◌≡◌ {A = Read B} (refused k q) (refused number place)
refused_same {A} {B} k q number place e =
    let z : k ≡ number = cc in
    let w : q ≡ place = cc in
    ap₂ {A = ℕ} {B = ℕ} {C = Read B} (λ (x y : ℕ). refused x y) z w

-- ---- how far a loop over n rows has come: i of them are read, and the next stands at a
pub record Reached {A : Type 0} (row : List A → ℕ → Read A) (n i a₀ a : ℕ) : Type 0 where
  pub so_far : List A
  pub many : length so_far ≡ i
  pub left : rows_at row n [] a₀ ≡ rows_at row (n - i) so_far a

module _ {A : Type 0} (row : List A → ℕ → Read A) where
  pub step : (n : ℕ) (xs : List A) (a : ℕ) → 0 < n → rows_at row n xs a ≡ bind (row xs a) (λ x c. rows_at row (n - 1) (xs ++ (x ∷ [])) c)
  unfolding rows_at
  step zero xs a h = absurd (omega arith)
  step (suc n) xs a h = simp sub-one

  unfoldable pub reached_none : (n a : ℕ) → Reached row n 0 a a
  reached_none n a = record { so_far = []; many = refl; left = rw sub-zero }

  module _ (n i a₀ a : ℕ) (h : Reached row n i a₀ a) where
    module _ (more : i < n) where
      pub some_left : 0 < n - i
      some_left = omega arith

      unfoldable pub reached_more : (x : A) (c : ℕ) → row h.so_far a ≡ got x c → Reached row n (i + 1) a₀ c
      reached_more x c p =
          let next : n - i - 1 ≡ n - (i + 1) = omega arith in
          record {
            so_far = h.so_far ++ (x ∷ []);
            many = omega (arith, length-append h.so_far (x ∷ []), h.many);
            left = h.left ∙ rw (step (n - i) h.so_far a some_left, p, next);
          }

      pub reached_refused : (number place : ℕ) → row h.so_far a ≡ refused number place → rows_at row n [] a₀ ≡ refused number place
      reached_refused number place p = h.left ∙ rw (step (n - i) h.so_far a some_left, p)

    pub reached_all : i ≡ n → rows_at row n [] a₀ ≡ got h.so_far a
    unfolding rows_at
    reached_all e =
        let none : n - i ≡ 0 = omega arith in
        h.left ∙ rw none

-- ---- a section, by its count
module _ {A : Type 0} (row : List A → ℕ → Read A) (most : ℕ) (s : List ℕ) (a : ℕ) where
  pub section_none : (number place : ℕ) → field_in 2 0 (most + 1) beyond s a ≡ refused number place → section_at row most s a ≡ refused number place
  unfolding section_at
  section_none number place count = rw count

  pub section_rows : (n c : ℕ) → field_in 2 0 (most + 1) beyond s a ≡ got n c → section_at row most s a ≡ rows_at row n [] c
  unfolding section_at
  section_rows n c count = rw count

-- ---- rows and sections that were read
pub rows_many : {A : Type 0} (row : List A → ℕ → Read A) (n : ℕ) (xs : List A) (a : ℕ) (ys : List A) (c : ℕ) → rows_at row n xs a ≡ got ys c → length ys ≡ length xs + n
unfolding rows_at
rows_many row zero xs a ys c h =
    let z : xs ≡ ys = cc in
    omega (arith, ap length z)
rows_many row (suc n) xs a ys c h =
    let r = through (row xs a) _ ys c h in
    omega (arith, rows_many row n (xs ++ (r.0 ∷ [])) r.1 ys c r.3, length-append xs (r.0 ∷ []))

pub record Sectioned {A : Type 0} (row : List A → ℕ → Read A) (most : ℕ) (s : List ℕ) (a : ℕ) (ys : List A) (c : ℕ) : Type 0 where
  pub few : length ys ≤ most
  pub there : a + 2 ≤ length s
  pub rows : rows_at row (length ys) [] (a + 2) ≡ got ys c

pub sectioned : {A : Type 0} (row : List A → ℕ → Read A) (most : ℕ) (s : List ℕ) (a : ℕ) (ys : List A) (c : ℕ) → section_at row most s a ≡ got ys c → Sectioned row most s a ys c
unfolding section_at
sectioned row most s a ys c h =
    let r = through (field_in 2 0 (most + 1) beyond s a) _ ys c h in
    let t = field_there 2 0 (most + 1) beyond s a r.0 r.1 r.2 in
    let m : r.0 ≡ length ys = omega (arith, rows_many row r.0 [] r.1 ys c r.3) in
    record {
      few = omega (arith, t.most, m);
      there = t.there;
      rows = ap₂ (λ (n b : ℕ). rows_at row n [] b) (sym m) (sym t.past) ∙ r.3;
    }
