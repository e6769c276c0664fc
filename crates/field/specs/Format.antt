-- What stands where in a text, and what refuses a text that doesn't keep to it: the table "Given exactly when / Place", without a reader.
use Rattle.std.specs.Prelude.{◌≡◌, cond, ◌⊎◌, List, ℕ, ◌+◌, ◌≤◌, ◌<◌, ℤ, leb, ltb, length}
use Rattle.field.specs.Field.{low_first, signed, between_z}

-- what a test says of a piece: what it stands for, or the number that refuses it
pub data Judged (A : Type 0) : Type 0 where
  passes : A → Judged A
  fails : ℕ → Judged A

-- a piece of a text: nothing; a number in so many bytes; one piece and then what it asks for; a piece that is tested when it is complete
pub data Format : Type 0 → Type 1 where
  known : {A : Type 0} → A → Format A
  field : ℕ → Format ℕ
  then : {A B : Type 0} → Format A → (A → Format B) → Format B
  tested : {A B : Type 0} → Format A → (A → Judged B) → Format B

-- the bytes of s from a to c are such a piece, and it is right: x
abbrev pub Piece : {A : Type 0} → List ℕ → Format A → ℕ → A → ℕ → Type 0
Piece s (known x) a y c = (x ≡ y) × (a ≡ c)
Piece s (field w) a v c = (a + w ≤ length s) × (low_first w s a ≡ v) × (a + w ≡ c)
Piece s (then {A = A} t next) a y c = (x : A) × (b : ℕ) × Piece s t a x b × Piece s (next x) b y c
Piece s (tested {A = A} t test) a y c = (x : A) × Piece s t a x c × (test x ≡ passes y)

-- "the first fault": such a piece is to stand from a on, all before p is right, and at p a field has too few bytes left (1), or a piece is complete
-- and fails its test, with that number
abbrev pub Fault : {A : Type 0} → List ℕ → Format A → ℕ → ℕ → ℕ → Type 0
Fault s (known x) a number p = ⊥
Fault s (field w) a number p = (length s < a + w) × (number ≡ 1) × (a ≡ p)
Fault s (then {A = A} t next) a number p = Fault s t a number p ⊎ ((x : A) × (b : ℕ) × Piece s t a x b × Fault s (next x) b number p)
Fault s (tested {A = A} t test) a number p = Fault s t a number p ⊎ ((x : A) × (c : ℕ) × Piece s t a x c × (test x ≡ fails number) × (a ≡ p))

-- "beyond its limit", "not 0 or 1", "that isn't there": a number of w bytes from low to below high, else that number at the field
abbrev pub from : ℕ → ℕ → ℕ → ℕ → Judged ℕ
from low high number v = cond (leb low v) (cond (ltb v high) (passes v) (fails number)) (fails number)

abbrev pub ranged : ℕ → ℕ → ℕ → ℕ → Format ℕ
ranged w low high number = tested (field w) (from low high number)

-- "k i32, K i32 .. signed in two's complement": from low to high; "k, K .. beyond its limit" is 2
abbrev pub from_z : ℤ → ℤ → ℕ → Judged ℤ
from_z low high v = cond (between_z low high (signed v)) (passes (signed v)) (fails 2)

abbrev pub signed_ranged : ℤ → ℤ → Format ℤ
signed_ranged low high = tested (field 4) (from_z low high)
