-- Fields: the number that stands at a place, or the refusal with its place.
use Rattle.std.specs.Prelude.{Bool, true, false, cond, List, ℕ, zero, suc, ◌+◌, ◌-◌, ◌*◌, ℤ, pos, negsuc, leb, ltb, length, get_or, Result, Ok, Err}
use Rattle.std.specs.Int.Signed.{lt_z}
use Rattle.reply.specs.Numbers.{missing, beyond}
use Rattle.field.specs.Read.{Read, Read.got, Read.refused, bind}
use Rattle.reply.specs.declared.Refusal.{Refusal}
use Rattle.reply.specs.Refusal.{cause_number}
use Rattle.reply.specs.Inner.Causes.{refusal}
use Rattle.field.specs.declared.Cursor.{Cursor}

-- "Numbers are low byte first": the number that w bytes from a on spell
unfoldable pub low_first : ℕ → List ℕ → ℕ → ℕ
low_first zero s a = 0
low_first (suc w) s a = low_first w s (a + 1) * 256 + get_or s a 0

-- "fewer bytes remain than the field has": refused at its first byte
unfoldable pub field_at : ℕ → List ℕ → ℕ → Read ℕ
field_at w s a = cond (leb (a + w) (length s)) (got (low_first w s a) (a + w)) (refused missing a)

-- "A field is fetched (1), tested for its range or value (2, 3), then as a reference (5)": from low to below high, else that number at the field
unfoldable pub field_in : ℕ → ℕ → ℕ → ℕ → List ℕ → ℕ → Read ℕ
field_in w low high number s a =
    bind (field_at w s a) λ v c. cond (leb low v) (cond (ltb v high) (got v c) (refused number a)) (refused number a)

-- "signed in two's complement": the number that bits stand for. The first half of what they can spell stand for themselves
abbrev pub signed_by : ℕ → ℕ → ℤ
signed_by half v = cond (ltb v half) (pos v) (negsuc (half + half - 1 - v))

-- 32 bits
unfoldable pub signed : ℕ → ℤ
signed v = signed_by 2147483648 v

-- "k i32, K i32": a signed field has four bytes
unfoldable pub signed_at : List ℕ → ℕ → Read ℤ
signed_at s a = bind (field_at 4 s a) λ v c. got (signed v) c

-- from low to high
abbrev pub between_z : ℤ → ℤ → ℤ → Bool
between_z low high z = cond (lt_z z low) false (cond (lt_z high z) false true)

-- a k or K "beyond its limit" is refused at the field: a signed field from low to high
unfoldable pub signed_in : ℤ → ℤ → List ℕ → ℕ → Read ℤ
signed_in low high s a = bind (signed_at s a) λ z c. cond (between_z low high z) (got z c) (refused beyond a)

-- the code's answer, as a reading: "a field plus the moved cursor or refusal and place"
abbrev pub read_of : {A : Type 0} → Result (A × Cursor) Refusal → Read A
read_of (Ok (x, c)) = got x c.at
read_of (Err r) = refused (cause_number r.cause) r.place

-- and a reading, as the code answers it
abbrev pub answer_of : {A : Type 0} → Read A → Result (A × Cursor) Refusal
answer_of (got x place) = Ok (x, record { at = place })
answer_of (refused number place) = Err (refusal number place)
