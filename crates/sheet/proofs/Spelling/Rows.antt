-- Sections of rows, of any kind: what is read is spelled there, what is spelled there is read, and a row that is refused refuses the section.
-- Assumes nothing.
use mathlib.Core.Path.{◌≡◌, refl, sym, ap, ◌∙◌, subst}
use mathlib.Core.List.{List, [], ◌∷◌, ◌++◌, append_assoc, append-nil}
use mathlib.Core.Option.{some}
use Prim.Native.Nat.{ℕ, zero, suc, ◌+◌, ◌≤◌, ◌<◌}
use native.Mathlib.Nat.{zero-add, suc-add}
use native.Mathlib.Omega.{arith}
use lib.ListN.{length, take, get_elem?, length-append}
use Rattle.reply.specs.Numbers.{beyond}
use Rattle.field.specs.Read.{Read, Read.got, Read.refused}
use Rattle.field.specs.Spelling.{bytes_of, AllBytes, Bytes, Bytes.done}
use Rattle.field.specs.Field.{field_in}
use Rattle.field.proofs.Read.{through}
use Rattle.field.proofs.Spelling.{join, end, split, limit2}
use Rattle.field.proofs.Fields.{field_in_bytes, field_in_got}
use Rattle.expression.specs.Spelled.{indexes}
use Rattle.expression.proofs.Lookup.{none_some}
use Rattle.sheet.specs.Sheet.{rows, section, Every, Each}
use Rattle.sheet.specs.Reader.{rows_at, section_at}

-- what holds of a piece that was read holds of the same piece by another name
pub same_got : {A : Type 0} {x y : A} {c d : ℕ} (P : A → ℕ → Type 0) → ◌≡◌ {A = Read A} (got x c) (got y d) → P x c → P y d
same_got {A} {x} {y} {c} {d} P e p =
    let z : x ≡ y = cc in
    let w : c ≡ d = cc in
    rw (← z, ← w) p

-- ---- each row, and every one
module _ {A : Type 0} where
  pub each_every : (P : A → Type 0) (xs zs : List A) → Each (λ ys z. P z) xs zs → Every P zs
  each_every P xs [] h = tt
  each_every P xs (z ∷ zs) h = (h.0, each_every P (xs ++ (z ∷ [])) zs h.1)

  pub every_each : (P : A → Type 0) (xs zs : List A) → Every P zs → Each (λ ys z. P z) xs zs
  every_each P xs [] h = tt
  every_each P xs (z ∷ zs) h = (h.0, every_each P (xs ++ (z ∷ [])) zs h.1)

  pub every_at : (P : A → Type 0) (xs : List A) (i : ℕ) (x : A) → Every P xs → get_elem? xs i ≡ some x → P x
  every_at P [] i x h e = none_some e
  every_at P (y ∷ xs) zero x h e =
      let z : y ≡ x = cc in
      subst P z h.0
  every_at P (y ∷ xs) (suc i) x h e = every_at P xs i x h.1 e

  -- row i keeps to `Ok`, after those before it
  pub each_at : (Ok : List A → A → Type 0) (xs zs : List A) (i : ℕ) (z : A) → Each Ok xs zs → get_elem? zs i ≡ some z → Ok (xs ++ take i zs) z
  each_at Ok xs [] i z h e = none_some e
  each_at Ok xs (y ∷ zs) zero z h e =
      let w : y ≡ z = cc in
      rw (← w, append-nil xs) h.0
  each_at Ok xs (y ∷ zs) (suc i) z h e = rw append_assoc at (each_at Ok (xs ++ (y ∷ [])) zs i z h.1 e)

  pub each_take : (Ok : List A → A → Type 0) (xs zs : List A) (i : ℕ) → Each Ok xs zs → Each Ok xs (take i zs)
  each_take Ok xs zs zero h = tt
  each_take Ok xs [] (suc i) h = tt
  each_take Ok xs (z ∷ zs) (suc i) h = (h.0, each_take Ok (xs ++ (z ∷ [])) zs i h.1)

  -- and where every one does so, each does
  pub at_each : (Ok : List A → A → Type 0) (xs zs : List A) → ((i : ℕ) (z : A) → get_elem? zs i ≡ some z → Ok (xs ++ take i zs) z) → Each Ok xs zs
  at_each Ok xs [] h = tt
  at_each Ok xs (z ∷ zs) h = (rw append-nil at (h 0 z refl), at_each Ok (xs ++ (z ∷ [])) zs λ i y e. rw append_assoc (h (suc i) y e))

-- ---- rows, by a reader of one
module _ {A : Type 0} (s : List ℕ) (row : List A → ℕ → Read A) (f : A → List ℕ) (Ok : List A → A → Type 0) where
  -- what the reader accepts is right and spelled there
  abbrev pub OnlySpelled : Type 0
  OnlySpelled = (xs : List A) (a : ℕ) (x : A) (c : ℕ) → row xs a ≡ got x c → Ok xs x × Bytes s a (f x) c

  -- what is right and spelled there it accepts, after no more rows than can be named
  abbrev pub AllSpelled : Type 0
  AllSpelled = (xs : List A) (a : ℕ) (x : A) (c : ℕ) → length xs ≤ indexes → Ok xs x → Bytes s a (f x) c → row xs a ≡ got x c

  rows_reads : OnlySpelled → (n : ℕ) (xs : List A) (a : ℕ) (ys : List A) (c : ℕ) → a ≤ length s → rows_at row n xs a ≡ got ys c
      → (zs : List A) × (ys ≡ xs ++ zs) × (length zs ≡ n) × Each Ok xs zs × Bytes s a (rows f zs) c
  unfolding rows_at rows
  rows_reads one zero xs a ys c h e =
      let z : xs ≡ ys = cc in
      let w : a ≡ c = cc in
      ([], sym z ∙ sym (append-nil xs), refl, tt, rw (← w) (done h))
  rows_reads one (suc n) xs a ys c h e =
      let r = through (row xs a) _ ys c e in
      let p = one xs a r.0 r.1 r.2 in
      let q = rows_reads one n (xs ++ (r.0 ∷ [])) r.1 ys c (end p.1).1 r.3 in
      (r.0 ∷ q.0, q.1 ∙ append_assoc xs (r.0 ∷ []) q.0, ap suc q.2, (p.0, q.3), join p.1 q.4)

  pub rows_read : AllSpelled → (zs xs : List A) (a c : ℕ) → length xs + length zs ≤ indexes → Each Ok xs zs → Bytes s a (rows f zs) c → rows_at row (length zs) xs a ≡ got (xs ++ zs) c
  unfolding rows_at rows
  rows_read one [] xs a c m h (done p) = rw append-nil
  rows_read one (z ∷ zs) xs a c m h b =
      let p = split (f z) (rows f zs) b in
      rw (one xs a z p.0 (omega arith) h.0 p.1)
      (rows_read one zs (xs ++ (z ∷ [])) p.0 c (omega (arith, length-append xs (z ∷ []))) h.1 p.2 ∙ ap (λ (ys : List A). got ys c) (append_assoc xs (z ∷ []) zs))

  pub section_reads : AllBytes s → OnlySpelled → (most a : ℕ) (ys : List A) (c : ℕ) → section_at row most s a ≡ got ys c → (length ys ≤ most) × Each Ok [] ys × Bytes s a (section f ys) c
  unfolding section_at section
  section_reads bytes one most a ys c h =
      let r = through (field_in 2 0 (most + 1) beyond s a) _ ys c h in
      let b = field_in_bytes s bytes 2 0 (most + 1) beyond a r.0 r.1 r.2 in
      let q = rows_reads one r.0 [] r.1 ys c (end b.3).1 r.3 in
      let n : r.0 ≡ length ys = sym q.2 ∙ ap length (sym q.1) in
      (omega (arith, b.1, n), rw q.1 q.3, join (rw n at b.3) (rw (← q.1) at q.4))

  -- the count of a section
  count_read : (most a n b : ℕ) → most < indexes → n ≤ most → Bytes s a (bytes_of 2 n) b → field_in 2 0 (most + 1) beyond s a ≡ got n b
  count_read most a n b m l c = field_in_got s 2 0 (most + 1) beyond a n b (omega arith) (omega arith) (omega (arith, limit2)) c

  pub section_read : AllSpelled → (most a : ℕ) (ys : List A) (c : ℕ) → most < indexes → length ys ≤ most → Each Ok [] ys → Bytes s a (section f ys) c → section_at row most s a ≡ got ys c
  unfolding section_at section
  section_read one most a ys c m l h b =
      let p = split (bytes_of 2 (length ys)) (rows f ys) b in
      rw (count_read most a (length ys) p.0 m l p.1) (rows_read one ys [] p.0 c (omega arith) h p.2)

  -- ---- rows that are read, and then one that is refused
  rows_stop : AllSpelled → (zs xs : List A) (m a d n p : ℕ) → length xs + length zs ≤ indexes → Each Ok xs zs → Bytes s a (rows f zs) d → row (xs ++ zs) d ≡ refused n p
      → rows_at row (length zs + suc m) xs a ≡ refused n p
  unfolding rows_at rows
  rows_stop one [] xs m a d n p l h (done e) r =
      let r' : row xs a ≡ refused n p = rw append-nil at r in
      rw (zero-add (suc m), r')
  rows_stop one (z ∷ zs) xs m a d n p l h b r =
      let q = split (f z) (rows f zs) b in
      let r' : row ((xs ++ (z ∷ [])) ++ zs) d ≡ refused n p = rw append_assoc r in
      rw (suc-add (length zs) (suc m), one xs a z q.0 (omega arith) h.0 q.1)
      (rows_stop one zs (xs ++ (z ∷ [])) m q.0 d n p (omega (arith, length-append xs (z ∷ []))) h.1 q.2 r')

  pub section_stops : AllSpelled → (most a : ℕ) (zs : List A) (m b d n p : ℕ) → most < indexes → length zs + suc m ≤ most → Each Ok [] zs
      → Bytes s a (bytes_of 2 (length zs + suc m)) b → Bytes s b (rows f zs) d → row zs d ≡ refused n p → section_at row most s a ≡ refused n p
  unfolding section_at
  section_stops one most a zs m b d n p h l k c e r =
      rw (count_read most a (length zs + suc m) b h l c) (rows_stop one zs [] m b d n p (omega arith) k e r)
