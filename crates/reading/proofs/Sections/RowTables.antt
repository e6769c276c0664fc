-- Rows that are read in a loop, of each of which something is stored in a table, one after another.
-- Assumes nothing.
use mathlib.Core.Path.{◌≡◌, refl, sym, ap, ◌∙◌, subst}
use mathlib.Core.List.{List, [], ◌∷◌, ◌++◌, map}
use Prim.Native.Nat.{ℕ, ◌+◌, ◌<◌}
use lib.ListN.{length, take, set}
use Rattle.std.proofs.lemmas.List.{take_more_set}
use Rattle.field.specs.Read.{Read, Read.got, Read.refused, mapped}
use Rattle.field.specs.Field.{read_of}
use Rattle.field.specs.declared.Cursor.{Cursor}
use Rattle.std.specs.Prelude.{Result, Err}
use Rattle.reply.specs.declared.Refusal.{Refusal}
use Rattle.reply.specs.Refusal.{cause_number}
use Rattle.field.proofs.Read.{refused_got}
use Rattle.sheet.specs.Reader.{rows_at}
use Rattle.reading.specs.Inner.Sections.{Left}
use Rattle.reading.proofs.Sections.Readings.{refused_same, Reached, reached_none, reached_more, reached_all}

-- ---- one more
pub map_more : {A B : Type 0} (f : A → B) (xs : List A) (x : A) → map f (xs ++ (x ∷ [])) ≡ map f xs ++ (f x ∷ [])
map_more f [] x = refl
map_more {B} f (y ∷ xs) x = ap {B = List B} (λ r. f y ∷ r) (map_more f xs x)

-- ---- a loop over n rows: i of them are read, and what f keeps of them is in the table
pub record Stored {A B : Type 0} (row : List A → ℕ → Read A) (f : A → B) (n i : ℕ) (t : List B) (a₀ a : ℕ) : Type 0 where
  pub on : Reached row n i a₀ a
  pub table : take i t ≡ map f on.so_far

module _ {A B : Type 0} (row : List A → ℕ → Read A) (f : A → B) where
  unfoldable pub stored_none : (n : ℕ) (t : List B) (a : ℕ) → Stored row f n 0 t a a
  unfolding reached_none
  stored_none n t a = record { on = reached_none row n a; table = refl }

  pub table_keeps : (i : ℕ) (t t' : List B) (xs : List A) (x : A) (y : B) → take i t ≡ map f xs → f x ≡ y → i < length t → t' ≡ set t i y → take (i + 1) t' ≡ map f (xs ++ (x ∷ []))
  table_keeps i t t' xs x y h e l q = rw (q, map_more f xs x, e, ← h) (take_more_set t i y l)

  module _ (n i : ℕ) (t : List B) (a₀ a : ℕ) (h : Stored row f n i t a₀ a) where
    unfoldable pub stored_more : i < n → (x : A) (c : ℕ) (y : B) (t' : List B) → row h.on.so_far a ≡ got x c → f x ≡ y → i < length t → t' ≡ set t i y → Stored row f n (i + 1) t' a₀ c
    unfolding reached_more
    stored_more more x c y t' p e l q =
        record { on = reached_more row n i a₀ a h.on more x c p; table = table_keeps i t t' h.on.so_far x y h.table e l q }

-- ---- what such a loop answers and leaves
module _ {A B : Type 0} (row : List A → ℕ → Read A) (f : A → B) (n : ℕ) (t : List B) (a₀ a : ℕ) where
  pub reached_left : (i : ℕ) → i ≡ n → (on : Reached row n i a₀ a) → take i t ≡ map f on.so_far → (r : Result (ℕ × Cursor) Refusal) → read_of r ≡ got n a → Left f (rows_at row n [] a₀) r t
  reached_left i e on h r p =
      let m : length on.so_far ≡ n = on.many ∙ e in
      rw (reached_all row n i a₀ a on e) (p ∙ ap (λ (x : ℕ). got x a) (sym m), rw on.many h)

module _ {A B : Type 0} (f : A → B) where
  pub left_none : (X : Read (List A)) (r : Result (ℕ × Cursor) Refusal) (t : List B) (number place : ℕ) → X ≡ refused number place → read_of r ≡ refused number place → Left f X r t
  left_none X r t number place h e = rw h e

  pub left_refused : (X : Read (List A)) (r : Result (ℕ × Cursor) Refusal) (t : List B) (e : Refusal) → Left f X r t → r ≡ Err e → X ≡ refused (cause_number e.cause) e.place
  left_refused (got xs c) r t e h is = refused_got (sym (ap read_of is) ∙ h.0)
  left_refused (refused k q) r t e h is = refused_same k q (cause_number e.cause) e.place (sym h ∙ ap read_of is)

  -- how many were read
  pub left_counted : (X : Read (List A)) (r : Result (ℕ × Cursor) Refusal) (t : List B) → Left f X r t → mapped length X ≡ read_of r
  left_counted (got xs c) r t h = sym h.0
  left_counted (refused number place) r t h = sym h

  pub left_table : (X : Read (List A)) (r : Result (ℕ × Cursor) Refusal) (t : List B) (xs : List A) (c : ℕ) → X ≡ got xs c → Left f X r t → take (length xs) t ≡ map f xs
  left_table X r t xs c e h = (subst (λ (x : Read (List A)). Left f x r t) e h).1
