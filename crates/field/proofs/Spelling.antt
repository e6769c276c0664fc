-- Laws of bytes that stand in a text, and of the numbers that w bytes spell. Assumes nothing.
use mathlib.Core.Path.{◌≡◌, refl, sym, ap, ap₂, ◌∙◌, subst}
use mathlib.Core.List.{List, [], ◌∷◌, ◌++◌, append-nil, append_assoc}
use Prim.Native.Nat.{ℕ, zero, suc, ◌+◌, ◌-◌, ◌*◌, ◌/◌, ◌%◌, ◌≤◌, ◌<◌}
use native.Mathlib.Nat.{pow-suc, pow-le-pow_right}
use native.Mathlib.Numerals.{add-one}
use native.Mathlib.Omega.{arith}
use borrow.Rule.Slice.PartMut.{put_mid}
use lib.ListN.{length, set, take, drop, length-append, length-take, length-drop}
use Rattle.std.proofs.lemmas.List.{drop_all, drop-drop}
use lib.Seq.{sets, sets-eq, drop-cons, take-length, get_or-append_seam}
use Rattle.field.specs.Spelling.{bytes_of, limit, Bytes, Bytes.done, Bytes.byte}

module _ {s : List ℕ} where
  -- what stands after what
  pub join : {a b c : ℕ} {xs ys : List ℕ} → Bytes s a xs b → Bytes s b ys c → Bytes s a (xs ++ ys) c
  join (done h) q = q
  join (byte h e p) q = byte h e (join p q)

  -- where it ends
  pub end : {a c : ℕ} {xs : List ℕ} → Bytes s a xs c → (c ≡ a + length xs) × (c ≤ length s)
  end (done {a = a} h) = (omega arith, h)
  end (byte {a = a} {xs = xs} h e p) =
      let r = end p in
      (omega (arith, r.0), r.1)

  -- two parts, and the place between them
  pub split : {a c : ℕ} (xs ys : List ℕ) → Bytes s a (xs ++ ys) c → (b : ℕ) × Bytes s a xs b × Bytes s b ys c
  split {a} [] ys p =
      let h : a ≤ length s = omega (arith, end p) in
      (a, done h, p)
  split (x ∷ xs) ys (byte h e p) =
      let r = split xs ys p in
      (r.0, byte h e r.1, r.2)

  -- as a part of the list
  pub part : {a c : ℕ} {xs : List ℕ} → Bytes s a xs c → take (c - a) (drop a s) ≡ xs
  part (done {a = a} h) =
      let e : a - a ≡ 0 = omega arith in
      ap (λ (n : ℕ). take n (drop a s)) e
  part (byte {a = a} {c = c} {x = x} {xs = xs} h e p) =
      let r = end p in
      let n : c - a ≡ suc (c - suc a) = omega (arith, r.0) in
      ap (λ (n : ℕ). take n (drop a s)) n ∙ ap (take (suc (c - suc a))) (drop-cons s a 0 h) ∙ ap₂ {C = List ℕ} (λ y ys. y ∷ ys) e (part p)

  -- the first byte, and what follows it
  pub head : {a c d t u : ℕ} {xs ys : List ℕ} → Bytes s a (t ∷ xs) c → Bytes s a (u ∷ ys) d → t ≡ u
  head (byte p e q) (byte p' e' q') = sym e ∙ e'

  pub tail : {a c t : ℕ} {xs : List ℕ} → Bytes s a (t ∷ xs) c → Bytes s (suc a) xs c
  tail (byte p e q) = q

  -- the first byte, by itself
  pub first : {a c x : ℕ} {xs : List ℕ} → Bytes s a (x ∷ xs) c → Bytes s a (x ∷ []) (suc a) × Bytes s (suc a) xs c
  first (byte p e q) = (byte p e (done p), q)

  -- from a place that is the same
  pub from : {b d c : ℕ} {xs : List ℕ} → b ≡ d → Bytes s d xs c → Bytes s b xs c
  from {c} {xs} e p = subst (λ (a : ℕ). Bytes s a xs c) (sym e) p

-- a text whose bytes from 0 to its end are xs is xs
pub whole_text_lem : (s xs : List ℕ) (c : ℕ) → Bytes s 0 xs c → c ≡ length s → s ≡ xs
whole_text_lem s xs c p e =
    let z : length s ≡ c - 0 = omega arith in
    sym (take-length s) ∙ ap (λ (n : ℕ). take n s) z ∙ part p

-- a text holds itself
pub itself : (ys pre : List ℕ) → Bytes (pre ++ ys) (length pre) ys (length (pre ++ ys))
itself [] pre =
    let e : length pre ≡ length (pre ++ []) = ap length (sym (append-nil pre)) in
    let l : length pre ≤ length (pre ++ []) = omega arith in
    subst (λ (c : ℕ). Bytes (pre ++ []) (length pre) [] c) e (done l)
itself (y ∷ ys) pre =
    let n : length (pre ++ (y ∷ [])) ≡ suc (length pre) = omega (arith, length-append pre (y ∷ [])) in
    let l : length pre < length (pre ++ (y ∷ ys)) = omega (arith, length-append pre (y ∷ ys)) in
    let r : Bytes ((pre ++ (y ∷ [])) ++ ys) (suc (length pre)) ys (length ((pre ++ (y ∷ [])) ++ ys)) = subst (λ (a : ℕ). Bytes ((pre ++ (y ∷ [])) ++ ys) a ys (length ((pre ++ (y ∷ [])) ++ ys))) n (itself ys (pre ++ (y ∷ []))) in
    byte l (get_or-append_seam pre y ys 0) (subst (λ (t : List ℕ). Bytes t (suc (length pre)) ys (length t)) (append_assoc pre (y ∷ []) ys) r)

-- ---- a number's bytes

-- v in w bytes is w bytes
pub bytes_of_length : (w v : ℕ) → length (bytes_of w v) ≡ w
unfolding bytes_of
bytes_of_length zero v = refl
bytes_of_length (suc w) v = ap suc (bytes_of_length w (v / 256))

pub one_byte : (v : ℕ) → v < 256 → bytes_of 1 v ≡ v ∷ []
unfolding bytes_of
one_byte v h =
    let e : v % 256 ≡ v = omega arith in
    ap (λ (x : ℕ). x ∷ []) e

-- ---- how many numbers w bytes can spell
pub limit_more : (w : ℕ) → limit (suc w) ≡ limit w * 256
unfolding limit
limit_more w = pow-suc 256 w

-- more bytes can spell no fewer
pub limit_most : (w n : ℕ) → w ≤ n → limit w ≤ limit n
unfolding limit
limit_most w n h = pow-le-pow_right (omega arith) h

pub limit1 : limit 1 ≡ 256
unfolding limit
limit1 = refl

pub limit2 : limit 2 ≡ 65536
unfolding limit
limit2 = refl

pub limit4 : limit 4 ≡ 4294967296
unfolding limit
limit4 = refl

pub limit7 : limit 7 ≡ 72057594037927936
unfolding limit
limit7 = refl

-- ---- a number put byte by byte: the lowest byte, then the others
pub lowest_first : (xs : List ℕ) (a w v : ℕ) → 0 < w → sets (set xs a (v % 256)) (a + 1) (bytes_of (w - 1) (v / 256)) ≡ sets xs a (bytes_of w v)
unfolding bytes_of
lowest_first xs a zero v h = absurd (omega arith)
lowest_first xs a (suc w) v h =
    let e : suc w - 1 ≡ w = omega arith in
    rw (add-one, e)

pub none_left : (xs : List ℕ) (a v w : ℕ) → w ≡ 0 → sets xs a (bytes_of w v) ≡ xs
unfolding bytes_of
none_left xs a v w e = rw e

-- a number put into a part of a list
pub part_put : (xs : List ℕ) (a w n : ℕ) (ys : List ℕ) (v : ℕ) → n ≡ w → a + w ≤ length xs → ys ≡ sets (take n (drop a xs)) 0 (bytes_of w v) → put_mid a n xs ys ≡ sets xs a (bytes_of w v)
part_put xs a w n ys v e h p =
    let l = bytes_of_length w v in
    let part : length (take w (drop a xs)) ≡ w = omega (arith, length-take w (drop a xs), length-drop a xs) in
    let q : sets (take w (drop a xs)) 0 (bytes_of w v) ≡ bytes_of w v =
    rw (sets-eq (bytes_of w v) (take w (drop a xs)) 0 (omega (arith, l, part)), drop_all (0 + length (bytes_of w v)) (take w (drop a xs)) (omega (arith, l, part))) (append-nil _) in
    rw (p, e, q, drop-drop w a xs, sets-eq (bytes_of w v) xs a (omega (arith, l)), l) (sym (append_assoc (take a xs) (bytes_of w v) (drop (a + w) xs)))
