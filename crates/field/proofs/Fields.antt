-- Laws of fields: what is read is what is spelled there, and what is spelled there is read. Assumes nothing.
use mathlib.Core.Path.{◌≡◌, refl, sym, ap, ap₂, ◌∙◌, subst}
use mathlib.Core.List.{List, [], ◌∷◌}
use Prim.Native.Nat.{ℕ, zero, suc, ◌+◌, ◌*◌, ◌/◌, ◌%◌, ◌≤◌, ◌<◌}
use native.Mathlib.Omega.{arith}
use lib.Dec.{leb, ltb}
use lib.ListN.{length, get_or}
use borrow.Author.Tests.{leb-true, ltb-true, le-leb, lt-leb, lt-ltb}
use Rattle.reply.specs.Numbers.{missing}
use Rattle.field.specs.Read.{Read, Read.got, Read.refused}
use Rattle.field.specs.Spelling.{bytes_of, limit, AllBytes, Bytes, Bytes.done, Bytes.byte}
use Rattle.std.specs.Prelude.{Result, Ok}
use Rattle.field.specs.Field.{low_first, field_at, field_in, read_of}
use Rattle.field.specs.declared.Cursor.{Cursor}
use Rattle.reply.specs.declared.Refusal.{Refusal}
use Rattle.field.proofs.Read.{through, cond_left}
use Rattle.field.proofs.Spelling.{end, one_byte, limit_more, limit_most, limit1}

-- ---- the number that bytes spell

pub low_first_none : (s : List ℕ) (a : ℕ) → low_first 0 s a ≡ 0
unfolding low_first
low_first_none s a = refl

-- one byte more in front
pub low_first_more : (s : List ℕ) (w a w' a' : ℕ) → w' ≡ suc w → a' + 1 ≡ a → low_first w' s a' ≡ low_first w s a * 256 + get_or s a' 0
unfolding low_first
low_first_more s w a w' a' e f = rw (e, ← f)

module _ (s : List ℕ) (bytes : AllBytes s) where
  -- bytes spell no more than they can
  pub low_below : (w a : ℕ) → low_first w s a < limit w
  unfolding low_first limit
  low_below zero a = omega arith
  low_below (suc w) a = omega (arith, low_below w (a + 1), bytes a, limit_more w)

  -- of at most n bytes
  pub low_most : (w n a : ℕ) → w ≤ n → low_first w s a < limit n
  low_most w n a h = omega (arith, low_below w a, limit_most w n h)

  -- the bytes that are there are those of the number that they spell
  pub low_bytes : (w a : ℕ) → a + w ≤ length s → Bytes s a (bytes_of w (low_first w s a)) (a + w)
  unfolding low_first bytes_of
  low_bytes zero a h =
      let e : a ≡ a + 0 = omega arith in
      subst (λ (c : ℕ). Bytes s a [] c) e (done (omega arith))
  low_bytes (suc w) a h =
      let v : ℕ = low_first w s (a + 1) in
      let x : ℕ = get_or s a 0 in
      let e₀ : x ≡ (v * 256 + x) % 256 = omega (arith, bytes a) in
      let e₁ : v ≡ (v * 256 + x) / 256 = omega (arith, bytes a) in
      let e₂ : a + 1 ≡ suc a = omega arith in
      let e₃ : a + 1 + w ≡ a + suc w = omega arith in
      let r : Bytes s (a + 1) (bytes_of w v) (a + 1 + w) = low_bytes w (a + 1) (omega arith) in
      let lt : a < length s = omega arith in
      let q : Bytes s (suc a) (bytes_of w ((v * 256 + x) / 256)) (a + suc w) = rw (← e₁, ← e₂, ← e₃) r in
      byte lt e₀ q

-- and of no other
pub low_is : (s : List ℕ) (w a v c : ℕ) → v < limit w → Bytes s a (bytes_of w v) c → (low_first w s a ≡ v) × (a + w ≡ c)
unfolding low_first bytes_of limit
low_is s zero a v c h (done p) = (omega arith, omega arith)
low_is s (suc w) a v c h (byte p e q) =
    let x : a + 1 ≡ suc a = omega arith in
    let r = low_is s w (a + 1) (v / 256) c (omega (arith, limit_more w)) (rw x q) in
    (omega (arith, r.0), omega (arith, r.1))

-- at one place there is one number of w bytes
pub same_field : {s : List ℕ} (w : ℕ) {a c d v u : ℕ} → v < limit w → u < limit w → Bytes s a (bytes_of w v) c → Bytes s a (bytes_of w u) d → (v ≡ u) × (c ≡ d)
same_field {s} w {a} {c} {d} {v} {u} h k p q =
    let r = low_is s w a v c h p in
    let t = low_is s w a u d k q in
    (sym r.0 ∙ t.0, sym r.1 ∙ t.1)

-- ---- a field

module _ (w : ℕ) (s : List ℕ) (a : ℕ) where
  -- bytes are missing
  pub field_short : length s < a + w → field_at w s a ≡ refused missing a
  unfolding field_at
  field_short h = rw (lt-leb (a + w) (length s) h)

  -- they are there
  pub field_whole : a + w ≤ length s → field_at w s a ≡ got (low_first w s a) (a + w)
  unfolding field_at
  field_whole h = rw (le-leb (a + w) (length s) h)

  -- what was got
  pub field_is : (v c : ℕ) → field_at w s a ≡ got v c → (low_first w s a ≡ v) × (a + w ≡ c) × (a + w ≤ length s)
  unfolding field_at
  field_is v c h =
      let r = cond_left (leb (a + w) (length s)) (got (low_first w s a) (a + w)) missing a v c h in
      (cc r.1, cc r.1, leb-true (a + w) (length s) r.0)

-- what is read is what is spelled there
pub field_bytes : (s : List ℕ) → AllBytes s → (w a v c : ℕ) → field_at w s a ≡ got v c → (v < limit w) × Bytes s a (bytes_of w v) c
field_bytes s bytes w a v c h =
    let r = field_is w s a v c h in
    rw (← r.0, ← r.1) (low_below s bytes w a, low_bytes s bytes w a r.2)

-- what is spelled there is read
pub field_got : (s : List ℕ) (w a v c : ℕ) → v < limit w → Bytes s a (bytes_of w v) c → field_at w s a ≡ got v c
field_got s w a v c h p =
    let r = low_is s w a v c h p in
    let l : a + w ≤ length s = omega (arith, r.1, end p) in
    field_whole w s a l ∙ ap₂ {C = Read ℕ} (λ y d. got y d) r.0 r.1

-- ---- a field with limits

-- what was got is within its limits
pub field_in_passed : (w low high n : ℕ) (s : List ℕ) (a v c : ℕ) → field_in w low high n s a ≡ got v c → (low ≤ v) × (v < high) × (field_at w s a ≡ got v c)
unfolding field_in
field_in_passed w low high n s a v c h =
    let r = through (field_at w s a) _ v c h in
    let p = cond_left (leb low r.0) _ n a v c r.3 in
    let q = cond_left (ltb r.0 high) (got r.0 r.1) n a v c p.1 in
    let e : r.0 ≡ v = cc q.1 in
    (omega (arith, leb-true low r.0 p.0), omega (arith, ltb-true r.0 high q.0), r.2 ∙ q.1)

pub field_in_bytes : (s : List ℕ) → AllBytes s → (w low high n a v c : ℕ) → field_in w low high n s a ≡ got v c
    → (low ≤ v) × (v < high) × (v < limit w) × Bytes s a (bytes_of w v) c
field_in_bytes s bytes w low high n a v c h =
    let r = field_in_passed w low high n s a v c h in
    let b = field_bytes s bytes w a v c r.2 in
    (r.0, r.1, b.0, b.1)

pub field_in_got : (s : List ℕ) (w low high n a v c : ℕ) → low ≤ v → v < high → v < limit w → Bytes s a (bytes_of w v) c → field_in w low high n s a ≡ got v c
unfolding field_in
field_in_got s w low high n a v c h₁ h₂ h₃ p = rw (field_got s w a v c h₃ p, le-leb low v h₁, lt-ltb v high h₂)

-- a field of one byte is that byte
pub byte_in_bytes : (s : List ℕ) → AllBytes s → (low high n a v c : ℕ) → field_in 1 low high n s a ≡ got v c → (low ≤ v) × (v < high) × Bytes s a (v ∷ []) c
byte_in_bytes s bytes low high n a v c h =
    let r = field_in_bytes s bytes 1 low high n a v c h in
    (r.0, r.1, rw (one_byte v (omega (arith, r.2, limit1))) at r.3)

pub byte_in_got : (s : List ℕ) (low high n a v c : ℕ) → low ≤ v → v < high → high ≤ 256 → Bytes s a (v ∷ []) c → field_in 1 low high n s a ≡ got v c
byte_in_got s low high n a v c p q m b =
    let l : v < 256 = omega arith in
    field_in_got s 1 low high n a v c p q (omega (arith, limit1)) (rw (one_byte v l) b)

-- a field that was got: its number is within its limits, and its bytes were there
pub record There (w low high : ℕ) (s : List ℕ) (a v c : ℕ) : Type 0 where
  pub least : low ≤ v
  pub most : v < high
  pub past : c ≡ a + w
  pub there : a + w ≤ length s

pub field_there : (w low high n : ℕ) (s : List ℕ) (a v c : ℕ) → field_in w low high n s a ≡ got v c → There w low high s a v c
field_there w low high n s a v c e =
    let r = field_in_passed w low high n s a v c e in
    let f = field_is w s a v c r.2 in
    record { least = r.0; most = r.1; past = sym f.1; there = f.2 }

-- the same, by what the code's reader ensures
pub there : (w low high n : ℕ) (s : List ℕ) (a : ℕ) {r : Result (ℕ × Cursor) Refusal} {v : ℕ} {c : Cursor} → read_of r ≡ field_in w low high n s a → r ≡ Ok (v, c) → There w low high s a v c.at
there w low high n s a {r} {v} {c} e f = field_there w low high n s a v c.at (sym e ∙ ap read_of f)
