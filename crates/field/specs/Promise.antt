-- What is proved of fields, for every width, text and place.
use Rattle.std.specs.Prelude.{◌≡◌, List, ℕ, ◌+◌, ◌≤◌, ◌<◌, length, Result}
use Rattle.reply.specs.declared.Refusal.{Refusal}
use Rattle.reply.specs.Numbers.{missing}
use Rattle.field.specs.Read.{Read, Read.got, Read.refused}
use Rattle.field.specs.Spelling.{bytes_of, limit, twos, Small, Bytes}
use Rattle.field.specs.Field.{field_at, signed_at, read_of}
use Rattle.field.specs.declared.Cursor.{Cursor}

-- a reading of w bytes at a place is faithful to how numbers of a kind are spelled
pub record Faithful {A : Type 0} (w : ℕ) (In : A → Type 0) (spelled : A → List ℕ) (read : Read A) (s : List ℕ) (a : ℕ) : Type 0 where
  -- where bytes are missing, that is the answer, at the field's first byte
  pub short : length s < a + w → read ≡ refused missing a
  -- where they are there, a number is read, and the place is past them
  pub there : a + w ≤ length s → (x : A) × (read ≡ got x (a + w))
  -- what is read is what is spelled there
  pub spells : (x : A) (c : ℕ) → read ≡ got x c → In x × Bytes s a (spelled x) c
  -- what is spelled there is read
  pub read_back : (x : A) (c : ℕ) → In x → Bytes s a (spelled x) c → read ≡ got x c
  -- no other number is spelled there
  pub only : (x y : A) (c d : ℕ) → In x → In y → Bytes s a (spelled x) c → Bytes s a (spelled y) d → (x ≡ y) × (c ≡ d)

-- a field of w bytes holds the one number below 256 ^ w that its bytes spell
abbrev pub FieldPromise : ℕ → List ℕ → ℕ → Type 0
FieldPromise w s a = Faithful w (λ v. v < limit w) (bytes_of w) (field_at w s a) s a

-- a signed field holds the one number of 32 bits that its four bytes spell in two's complement
abbrev pub SignedPromise : List ℕ → ℕ → Type 0
SignedPromise s a = Faithful 4 Small (λ z. bytes_of 4 (twos z)) (signed_at s a) s a

-- a contract that gives the reading decides the answer: no second one satisfies it
pub record OneAnswer : Type 1 where
  pub one_answer : {A : Type 0} (r q : Result (A × Cursor) Refusal) → read_of r ≡ read_of q → r ≡ q
