-- Links that a loop goes over: their sizes are summed up, and their rows written one after another.
-- Assumes nothing.
use mathlib.Core.Path.{◌≡◌, refl, sym, ap, ap₂, ◌∙◌}
use mathlib.Core.List.{List, [], ◌∷◌, ◌++◌, map, append-nil, append_assoc}
use Prim.Native.Nat.{ℕ, ◌+◌, ◌*◌, ◌≤◌, ◌<◌}
use native.Mathlib.Nat.{mul-zero, mul-suc}
use native.Mathlib.Numerals.{add-one}
use native.Mathlib.Omega.{arith}
use lib.IntN.{ℤ}
use lib.ListN.{length, get_or, take, drop, length-append, take-append-drop}
use lib.Seq.{sets, sets-eq, take_at, drop_at, drop-drop, length-take-le, take_all, take-suc}
use Rattle.envelope.specs.declared.Node.{Node}
use Rattle.link.specs.declared.Row.{Row}
use Rattle.link.specs.Link.{open_size_of}
use Rattle.sizing.specs.declared.Rooms.{Rooms}
use Rattle.sheet.specs.Sheet.{Link}
use Rattle.sizing.specs.Rooms.{total, size_of_row}
use Rattle.sizing.specs.WorkOut.{flatten}
use Rattle.sizing.specs.Inner.Rows.{row_at, rows_in, rooms_over, rooms_with}
use Rattle.reading.proofs.Sections.RowTables.{map_more}
use Rattle.sizing.proofs.LinkRows.{open_most}

-- ---- the first i of a list, with the next one
pub take_next : {A : Type 0} (xs : List A) (i : ℕ) (x : A) → i < length xs → x ≡ get_or xs i x → take (i + 1) xs ≡ take i xs ++ (x ∷ [])
take_next {A} xs i x h e = rw (add-one i) (take-suc xs i x h ∙ ap (λ (y : A). take i xs ++ (y ∷ [])) (sym e))

-- ---- sums, with one more
total_more : (xs : List ℕ) (x : ℕ) → total (xs ++ (x ∷ [])) ≡ total xs + x
unfolding total
total_more [] x = omega arith
total_more (y ∷ xs) x = omega (arith, total_more xs x)

sum_more : (f : Row → ℕ) (rs : List Row) (r : Row) → total (map f (rs ++ (r ∷ []))) ≡ total (map f rs) + f r
sum_more f rs r = ap total (map_more f rs r) ∙ total_more (map f rs) (f r)

-- ---- so many numbers for each
module _ {A : Type 0} (f : A → List ℤ) where
  flatten_more : (xs : List A) (x : A) → flatten f (xs ++ (x ∷ [])) ≡ flatten f xs ++ f x
  unfolding flatten
  flatten_more [] x = append-nil (f x)
  flatten_more (y ∷ xs) x = ap (λ (l : List ℤ). f y ++ l) (flatten_more xs x) ∙ sym (append_assoc (f y) (flatten f xs) (f x))

  pub flatten_length : (w : ℕ) → ((x : A) → length (f x) ≡ w) → (xs : List A) → length (flatten f xs) ≡ w * length xs
  unfolding flatten
  flatten_length w wide [] = sym (mul-zero w)
  flatten_length w wide (x ∷ xs) =
      length-append (f x) (flatten f xs) ∙ ap₂ (λ (a b : ℕ). a + b) (wide x) (flatten_length w wide xs) ∙ omega (arith, mul-suc w (length xs))

-- written one after another over o: those of i are there, and what follows is as it was
module _ {A : Type 0} (f : A → List ℤ) (w : ℕ) (wide : (x : A) → length (f x) ≡ w) (o : List ℤ) where
  pub record Written (i : ℕ) (xs : List A) (l : List ℤ) : Type 0 where
    pub front : take (w * i) l ≡ flatten f xs
    pub back : drop (w * i) l ≡ drop (w * i) o

  pub written_none : Written 0 [] o
  unfolding flatten
  written_none = record { front = ap (λ (k : ℕ). take k o) (mul-zero w); back = refl }

  pub written_more : (i : ℕ) (xs : List A) (l l' : List ℤ) → Written i xs l → (x : A) → w * i + w ≤ length l → l' ≡ sets l (w * i) (f x) → Written (i + 1) (xs ++ (x ∷ [])) l'
  written_more i xs l l' h x room e =
      let next : w * (i + 1) ≡ w * i + w = rw add-one (mul-suc w i ∙ omega arith) in
      let lead : length (take (w * i) l ++ f x) ≡ w * i + w = length-append (take (w * i) l) (f x) ∙ ap₂ (λ (a b : ℕ). a + b) (length-take-le (w * i) l (omega arith)) (wide x) in
      let is : l' ≡ (take (w * i) l ++ f x) ++ drop (w * i + length (f x)) l = e ∙ sets-eq (f x) l (w * i) (omega (arith, wide x)) in
      record {
        front = rw (next, is) (take_at (take (w * i) l ++ f x) _ (w * i + w) lead ∙ ap (λ (y : List ℤ). y ++ f x) h.front ∙ sym (flatten_more f xs x));
        back =
            rw (next, is)
            (drop_at (take (w * i) l ++ f x) _ (w * i + w) lead
            ∙ ap (λ (k : ℕ). drop (w * i + k) l) (wide x)
            ∙ sym (drop-drop w (w * i) l)
            ∙ ap (drop w) h.back
            ∙ drop-drop w (w * i) o);
      }

  pub written_all : (i : ℕ) (xs : List A) (l : List ℤ) → Written i xs l → l ≡ flatten f xs ++ drop (w * i) o
  written_all i xs l h = sym (take-append-drop (w * i) l) ∙ ap₂ (λ (x y : List ℤ). x ++ y) h.front h.back

-- ---- a loop over the links ls: i of them are summed up
module _ (xs : List Node) (ss : List ℕ) (ls : List Link) where
  abbrev pub rows_to : ℕ → List Row
  rows_to i = rows_in xs ss (take i ls)

  pub record Summed (i : ℕ) (q : Rooms) : Type 0 where
    pub sums : q ≡ rooms_over (rows_to i)
    pub open_few : q.opened ≤ 3000000000 * i
    pub whole_few : q.whole ≤ 3000000000 * i

  pub summed_none : (q : Rooms) → (q.opened ≡ 0) × (q.whole ≡ 0) → Summed 0 q
  unfolding total
  summed_none q h = record { sums = λ j. record { opened = h.0 j; whole = h.1 j }; open_few = omega (arith, h); whole_few = omega (arith, h) }

  -- the rows, with one more
  pub rows_more : (i : ℕ) (k : Link) (r : Row) → take (i + 1) ls ≡ take i ls ++ (k ∷ []) → r ≡ row_at xs ss k → rows_to (i + 1) ≡ rows_to i ++ (r ∷ [])
  rows_more i k r p e = ap (rows_in xs ss) p ∙ map_more (row_at xs ss) (take i ls) k ∙ ap (λ (q : Row). rows_to i ++ (q ∷ [])) (sym e)

  pub summed_more : (i : ℕ) (q q' : Rooms) → Summed i q → (k : Link) (r : Row) → size_of_row r ≤ 3000000000 → take (i + 1) ls ≡ take i ls ++ (k ∷ []) → r ≡ row_at xs ss k → q' ≡ rooms_with q r
      → Summed (i + 1) q'
  summed_more i q q' h k r few p e w =
      let opens : q.opened + open_size_of r ≡ total (map open_size_of (rows_to (i + 1))) =
      ap (λ (y : Rooms). y.opened + open_size_of r) h.sums ∙ sym (sum_more open_size_of (rows_to i) r) ∙ ap (λ (rs : List Row). total (map open_size_of rs)) (sym (rows_more i k r p e)) in
      let wholes : q.whole + size_of_row r ≡ total (map size_of_row (rows_to (i + 1))) =
      ap (λ (y : Rooms). y.whole + size_of_row r) h.sums ∙ sym (sum_more size_of_row (rows_to i) r) ∙ ap (λ (rs : List Row). total (map size_of_row rs)) (sym (rows_more i k r p e)) in
      rw w
      (record {
        sums = λ j. record { opened = opens j; whole = wholes j };
        open_few = omega (arith, h.open_few, few, open_most r);
        whole_few = omega (arith, h.whole_few, few);
      })

  pub rows_all : (i : ℕ) → length ls ≤ i → rows_to i ≡ rows_in xs ss ls
  rows_all i e = ap (rows_in xs ss) (take_all i ls e)
