-- Laws of signed fields: two's complement both ways, and what is read is what is spelled there. Assumes nothing.
use mathlib.Core.Path.{◌≡◌, refl, sym, ap, ◌∙◌}
use mathlib.Core.Bool.{Bool, true, false, cond}
use mathlib.Core.List.{List}
use Prim.Native.Nat.{ℕ, ◌+◌, ◌≤◌, ◌<◌}
use native.Mathlib.Omega.{arith}
use lib.IntN.{ℤ, pos, negsuc}
use lib.Signed.{◌≤ℤ◌, lt_z}
use lib.ListN.{length}
use Rattle.reply.specs.Numbers.{missing, beyond}
use Rattle.whole.proofs.Bridge.{apart, orders, signed as signs}
use Rattle.field.specs.Read.{Read.got, Read.refused}
use Rattle.field.specs.Spelling.{bytes_of, limit, twos, Small, AllBytes, Bytes}
use Rattle.field.specs.Field.{low_first, field_at, signed, signed_at, between_z, signed_in}
use Rattle.field.proofs.Read.{through, cond_left}
use Rattle.field.proofs.Spelling.{limit4}
use Rattle.field.proofs.Twos.{by_halves, twos_below as twos_by_below, twos_signed as twos_by_signed, signed_twos as signed_by_twos}
use Rattle.field.proofs.Fields.{same_field, field_short, field_whole, field_bytes, field_got}

-- ---- 32 bits in two's complement: four bytes'
twos_below : (z : ℤ) → Small z → twos z < limit 4
twos_below z h = omega (arith, limit4, twos_by_below 2147483648 z (omega (arith, orders, apart z)) (omega (arith, orders, apart z)))

twos_signed : (v : ℕ) → v < limit 4 → twos (signed v) ≡ v
unfolding signed
twos_signed v h = twos_by_signed 2147483648 v (omega (arith, limit4))

signed_twos : (z : ℤ) → Small z → signed (twos z) ≡ z
unfolding signed
signed_twos z h = signed_by_twos 2147483648 z (omega (arith, orders, apart z)) (omega (arith, orders, apart z))

signed_small : (v : ℕ) → v < limit 4 → Small (signed v)
unfolding signed
signed_small v h = by_halves 2147483648 Small v (λ l. record { least = omega (arith, orders); most = omega (arith, orders) }) (λ l. record { least = omega (arith, orders); most = omega (arith, orders) })

-- ---- a signed field

pub signed_short : (s : List ℕ) (a : ℕ) → length s < a + 4 → signed_at s a ≡ refused missing a
unfolding signed_at
signed_short s a h = rw (field_short 4 s a h)

pub signed_whole : (s : List ℕ) (a : ℕ) → a + 4 ≤ length s → signed_at s a ≡ got (signed (low_first 4 s a)) (a + 4)
unfolding signed_at
signed_whole s a h = rw (field_whole 4 s a h)

-- what is read is what is spelled there
pub signed_bytes : (s : List ℕ) → AllBytes s → (a : ℕ) (z : ℤ) (c : ℕ) → signed_at s a ≡ got z c → Small z × Bytes s a (bytes_of 4 (twos z)) c
unfolding signed_at
signed_bytes s bytes a z c h =
    let r = through (field_at 4 s a) _ z c h in
    go r.0 r.1 (field_bytes s bytes 4 a r.0 r.1 r.2) (cc r.3) (cc r.3)
  where
    go : (v d : ℕ) → (v < limit 4) × Bytes s a (bytes_of 4 v) d → signed v ≡ z → d ≡ c → Small z × Bytes s a (bytes_of 4 (twos z)) c
    go v d b e f = rw (← e, ← f, twos_signed v b.0) (signed_small v b.0, b.1)

-- what is spelled there is read
pub signed_got : (s : List ℕ) (a : ℕ) (z : ℤ) (c : ℕ) → Small z → Bytes s a (bytes_of 4 (twos z)) c → signed_at s a ≡ got z c
unfolding signed_at
signed_got s a z c h p = rw (field_got s 4 a (twos z) c (twos_below z h) p, signed_twos z h)

-- at one place there is one signed number
pub same_signed : {s : List ℕ} {a c d : ℕ} (z y : ℤ) → Small z → Small y → Bytes s a (bytes_of 4 (twos z)) c → Bytes s a (bytes_of 4 (twos y)) d → (z ≡ y) × (c ≡ d)
same_signed z y h k p q =
    let r = same_field 4 (twos_below z h) (twos_below y k) p q in
    (sym (signed_twos z h) ∙ ap signed r.0 ∙ signed_twos y k, r.1)

-- ---- with limits

-- the test, both ways
pub between_z_true : (low high z : ℤ) → between_z low high z ≡ true → (low ≤ℤ z) × (z ≤ℤ high)
between_z_true low high z h = go (lt_z z low) (lt_z high z) refl refl h
  where
    go : (x y : Bool) → lt_z z low ≡ x → lt_z high z ≡ y → cond x false (cond y false true) ≡ true → (low ≤ℤ z) × (z ≤ℤ high)
    go true y e f h = absurd (cc)
    go false true e f h = absurd (cc)
    go false false e f h = (omega (arith, signs), omega (arith, signs))

pub between_z_holds : (low high z : ℤ) → low ≤ℤ z → z ≤ℤ high → between_z low high z ≡ true
between_z_holds low high z p q = go (lt_z z low) (lt_z high z) refl refl
  where
    go : (x y : Bool) → lt_z z low ≡ x → lt_z high z ≡ y → cond x false (cond y false true) ≡ true
    go true y e f = absurd (omega (arith, signs))
    go false true e f = absurd (omega (arith, signs))
    go false false e f = refl

-- what was got is within its limits
pub signed_in_passed : (low high : ℤ) (s : List ℕ) (a : ℕ) (z : ℤ) (c : ℕ) → signed_in low high s a ≡ got z c → (low ≤ℤ z) × (z ≤ℤ high) × (signed_at s a ≡ got z c)
unfolding signed_in
signed_in_passed low high s a z c h =
    let r = through (signed_at s a) _ z c h in
    let p = cond_left (between_z low high r.0) (got r.0 r.1) beyond a z c r.3 in
    let e : r.0 ≡ z = cc p.1 in
    let l = between_z_true low high r.0 p.0 in
    (rw e at l.0, rw e at l.1, r.2 ∙ p.1)

pub signed_in_bytes : (s : List ℕ) → AllBytes s → (low high : ℤ) (a : ℕ) (z : ℤ) (c : ℕ) → signed_in low high s a ≡ got z c
    → (low ≤ℤ z) × (z ≤ℤ high) × Bytes s a (bytes_of 4 (twos z)) c
signed_in_bytes s bytes low high a z c h =
    let r = signed_in_passed low high s a z c h in
    (r.0, r.1, (signed_bytes s bytes a z c r.2).1)

pub signed_in_got : (s : List ℕ) (low high : ℤ) (a : ℕ) (z : ℤ) (c : ℕ) → negsuc 2147483647 ≤ℤ low → high ≤ℤ pos 2147483647 → low ≤ℤ z → z ≤ℤ high → Bytes s a (bytes_of 4 (twos z)) c → signed_in low high s a ≡ got z c
unfolding signed_in
signed_in_got s low high a z c m m' p q b =
    let h : Small z = record { least = omega (arith, orders); most = omega (arith, orders) } in
    rw (signed_got s a z c h b, between_z_holds low high z p q)
