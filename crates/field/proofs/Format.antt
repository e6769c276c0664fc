-- Laws of formats, each proved once for every format: a format's reader gives exactly the piece that stands there or the refusal of the table; what
-- follows a fault changes nothing; a refusal lies within the text; and a text cut short is refused at the field that is cut. Assumes nothing.
use mathlib.Core.Path.{◌≡◌, refl, sym, ap, ◌∙◌, subst}
use mathlib.Core.Bool.{Bool, true, false, cond}
use mathlib.Core.Logic.{◌⊎◌, inl, inr, ◌≢◌}
use mathlib.Core.List.{List, [], ◌∷◌, ◌++◌}
use Prim.Native.Nat.{ℕ, zero, suc, ◌+◌, ◌≤◌, ◌<◌}
use native.Mathlib.Omega.{arith}
use lib.IntN.{ℤ}
use lib.Dec.{leb, ltb}
use lib.ListN.{length, get_or, length-append}
use borrow.Author.Tests.{leb-true, leb-false}
use Rattle.reply.specs.Numbers.{missing, beyond}
use Rattle.field.specs.Read.{Read, Read.got, Read.refused, bind}
use Rattle.field.specs.Field.{low_first, field_at, field_in, signed, signed_at, between_z, signed_in}
use Rattle.field.specs.Format.{Judged, Judged.passes, Judged.fails, Format, Format.known, Format.field, Format.then, Format.tested, Piece, Fault, ranged, signed_ranged}
use Rattle.field.specs.Run.{settled, run}
use Rattle.field.specs.Spelling.{bytes_of, AllBytes, Bytes}
use Rattle.field.proofs.Fields.{field_short, field_whole, field_bytes}

abbrev Said : {A : Type 0} → List ℕ → Format A → ℕ → Read A → Type 0
Said s t a (got x c) = Piece s t a x c
Said s t a (refused number p) = Fault s t a number p

module _ (s : List ℕ) where
  -- ---- what the reader answers is so
  said_field : (w a : ℕ) → Said s (field w) a (field_at w s a)
  unfolding field_at
  said_field w a = go (leb (a + w) (length s)) refl
    where
      go : (b : Bool) → leb (a + w) (length s) ≡ b → Said s (field w) a (cond b (got (low_first w s a) (a + w)) (refused missing a))
      go true e = (leb-true (a + w) (length s) e, refl, refl)
      go false e = (leb-false (a + w) (length s) e, refl, refl)

  said_then : {A B : Type 0} (t : Format A) (next : A → Format B) (a : ℕ) (r : Read A) → Said s t a r → ((x : A) (c : ℕ) → Said s (next x) c (run (next x) s c))
      → Said s (then t next) a (bind r λ x c. run (next x) s c)
  said_then t next a (got x b) h k = onward (run (next x) s b) (k x b)
    where
      onward : (q : Read _) → Said s (next x) b q → Said s (then t next) a q
      onward (got y c) m = (x, b, h, m)
      onward (refused number p) m = inr (x, b, h, m)
  said_then t next a (refused number p) h k = inl h

  said_tested : {A B : Type 0} (t : Format A) (test : A → Judged B) (a : ℕ) (r : Read A) → Said s t a r → Said s (tested t test) a (bind r λ x c. settled (test x) c a)
  said_tested t test a (got x c) h = onward (test x) refl
    where
      onward : (j : Judged _) → test x ≡ j → Said s (tested t test) a (settled j c a)
      onward (passes y) e = (x, h, e)
      onward (fails number) e = inr (x, c, h, e, refl)
  said_tested t test a (refused number p) h = inl h

  said : {A : Type 0} (t : Format A) (a : ℕ) → Said s t a (run t s a)
  unfolding run
  said (known x) a = (refl, refl)
  said (field w) a = said_field w a
  said (then t next) a = said_then t next a (run t s a) (said t a) λ x c. said (next x) c
  said (tested t test) a = said_tested t test a (run t s a) (said t a)

  pub read_piece : {A : Type 0} (t : Format A) (a : ℕ) (y : A) (c : ℕ) → run t s a ≡ got y c → Piece s t a y c
  read_piece t a y c e = subst (λ (r : Read _). Said s t a r) e (said t a)

  pub read_fault : {A : Type 0} (t : Format A) (a number p : ℕ) → run t s a ≡ refused number p → Fault s t a number p
  read_fault t a number p e = subst (λ (r : Read _). Said s t a r) e (said t a)

  -- ---- and what is so it answers
  pub piece_read : {A : Type 0} (t : Format A) (a : ℕ) (y : A) (c : ℕ) → Piece s t a y c → run t s a ≡ got y c
  unfolding run
  piece_read (known x) a y c h = cc
  piece_read (field w) a v c h = field_whole w s a h.0 ∙ cc
  piece_read (then t next) a y c h = rw (piece_read t a h.0 h.1 h.2) (piece_read (next h.0) h.1 y c h.3)
  piece_read (tested t test) a y c h = rw (piece_read t a h.0 c h.1, h.2)

  pub fault_read : {A : Type 0} (t : Format A) (a number p : ℕ) → Fault s t a number p → run t s a ≡ refused number p
  unfolding run
  fault_read (known x) a number p h = absurd h
  fault_read (field w) a number p h = field_short w s a h.0 ∙ cc
  fault_read (then t next) a number p (inl h) = rw (fault_read t a number p h)
  fault_read (then t next) a number p (inr h) = rw (piece_read t a h.0 h.1 h.2) (fault_read (next h.0) h.1 number p h.3)
  fault_read (tested t test) a number p (inl h) = rw (fault_read t a number p h)
  fault_read (tested t test) a number p (inr h) = rw (piece_read t a h.0 h.1 h.2, h.3, h.4)

  -- a piece after another
  pub then_got : {A B : Type 0} (t : Format A) (next : A → Format B) (a : ℕ) (x : A) (c : ℕ) → run t s a ≡ got x c → run (then t next) s a ≡ run (next x) s c
  unfolding run
  then_got t next a x c e = rw e

  -- a field holds the number that its bytes spell
  pub piece_bytes : AllBytes s → (w a v c : ℕ) → Piece s (field w) a v c → Bytes s a (bytes_of w v) c
  unfolding run
  piece_bytes bytes w a v c h = (field_bytes s bytes w a v c (piece_read (field w) a v c h)).1

  -- ---- one piece at a place
  pub one_piece : {A : Type 0} (t : Format A) (a : ℕ) (x y : A) (c d : ℕ) → Piece s t a x c → Piece s t a y d → (x ≡ y) × (c ≡ d)
  one_piece t a x y c d h k =
      let e : ◌≡◌ {A = Read _} (got x c) (got y d) = sym (piece_read t a x c h) ∙ piece_read t a y d k in
      (cc, cc)

  -- ---- a piece and a refusal lie within the text
  pub piece_within : {A : Type 0} (t : Format A) (a : ℕ) (y : A) (c : ℕ) → a ≤ length s → Piece s t a y c → c ≤ length s
  piece_within (known x) a y c l h = omega (arith, h.1)
  piece_within (field w) a v c l h = omega (arith, h.2, h.0)
  piece_within (then t next) a y c l h = piece_within (next h.0) h.1 y c (piece_within t a h.0 h.1 l h.2) h.3
  piece_within (tested t test) a y c l h = piece_within t a h.0 c l h.1

  pub fault_within : {A : Type 0} (t : Format A) (a number p : ℕ) → a ≤ length s → Fault s t a number p → p ≤ length s
  fault_within (known x) a number p l h = absurd h
  fault_within (field w) a number p l h = omega (arith, h.2)
  fault_within (then t next) a number p l (inl h) = fault_within t a number p l h
  fault_within (then t next) a number p l (inr h) = fault_within (next h.0) h.1 number p (piece_within t a h.0 h.1 l h.2) h.3
  fault_within (tested t test) a number p l (inl h) = fault_within t a number p l h
  fault_within (tested t test) a number p l (inr h) = omega (arith, h.4)

-- ---- which numbers a format can give
abbrev pub Fails : {A : Type 0} → (ℕ → Type 0) → Judged A → Type 0
Fails P (passes x) = Unit
Fails P (fails number) = P number

abbrev pub Gives : {A : Type 0} → (ℕ → Type 0) → Format A → Type 0
Gives P (known x) = Unit
Gives P (field w) = Unit
Gives P (then {A = A} t next) = Gives P t × ((x : A) → Gives P (next x))
Gives P (tested {A = A} t test) = Gives P t × ((x : A) → Fails P (test x))

pub fault_gives : {A : Type 0} (s : List ℕ) (P : ℕ → Type 0) → P missing → (t : Format A) (a number p : ℕ) → Gives P t → Fault s t a number p → P number
fault_gives s P one (known x) a number p g h = absurd h
fault_gives s P one (field w) a number p g h = rw h.1 one
fault_gives s P one (then t next) a number p g (inl h) = fault_gives s P one t a number p g.0 h
fault_gives s P one (then t next) a number p g (inr h) = fault_gives s P one (next h.0) h.1 number p (g.1 h.0) h.3
fault_gives s P one (tested t test) a number p g (inl h) = fault_gives s P one t a number p g.0 h
fault_gives s P one (tested t test) a number p g (inr h) = rw h.3 at (g.1 h.0)

pub fails_cond : {A : Type 0} (P : ℕ → Type 0) (t : Bool) (j : Judged A) (number : ℕ) → Fails P j → P number → Fails P (cond t j (fails number))
fails_cond P true j number h k = h
fails_cond P false j number h k = k

pub gives_ranged : (P : ℕ → Type 0) (w low high number : ℕ) → P number → Gives P (ranged w low high number)
gives_ranged P w low high number h = (tt, λ v. fails_cond P (leb low v) _ number (fails_cond P (ltb v high) (passes v) number tt h) h)

pub gives_signed : (P : ℕ → Type 0) (low high : ℤ) → P beyond → Gives P (signed_ranged low high)
gives_signed P low high h = (tt, λ v. fails_cond P (between_z low high (signed v)) (passes (signed v)) beyond tt h)

-- ---- a text that goes on, and one that is cut short
get_d_append : (s t : List ℕ) (i : ℕ) → i < length s → get_or (s ++ t) i 0 ≡ get_or s i 0
get_d_append [] t i h = absurd (omega arith)
get_d_append (x ∷ s) t zero h = refl
get_d_append (x ∷ s) t (suc i) h = get_d_append s t i (omega arith)

module _ (s more : List ℕ) where
  low_stays : (w a : ℕ) → a + w ≤ length s → low_first w (s ++ more) a ≡ low_first w s a
  unfolding low_first
  low_stays zero a h = refl
  low_stays (suc w) a h = rw (low_stays w (a + 1) (omega arith), get_d_append s more a (omega arith))

  pub piece_stays : {A : Type 0} (t : Format A) (a : ℕ) (y : A) (c : ℕ) → Piece s t a y c → Piece (s ++ more) t a y c
  piece_stays (known x) a y c h = h
  piece_stays (field w) a v c h = (omega (arith, h.0, length-append s more), low_stays w a h.0 ∙ h.1, h.2)
  piece_stays (then t next) a y c h = (h.0, h.1, piece_stays t a h.0 h.1 h.2, piece_stays (next h.0) h.1 y c h.3)
  piece_stays (tested t test) a y c h = (h.0, piece_stays t a h.0 c h.1, h.2)

  -- whatever follows a fault, that fault is given, unless bytes were missing
  pub fault_stays : {A : Type 0} (t : Format A) (a number p : ℕ) → number ≢ missing → Fault s t a number p → Fault (s ++ more) t a number p
  fault_stays (known x) a number p n h = h
  fault_stays (field w) a number p n h = absurd (n h.1)
  fault_stays (then t next) a number p n (inl h) = inl (fault_stays t a number p n h)
  fault_stays (then t next) a number p n (inr h) = inr (h.0, h.1, piece_stays t a h.0 h.1 h.2, fault_stays (next h.0) h.1 number p n h.3)
  fault_stays (tested t test) a number p n (inl h) = inl (fault_stays t a number p n h)
  fault_stays (tested t test) a number p n (inr h) = inr (h.0, h.1, piece_stays t a h.0 h.1 h.2, h.3, h.4)

  -- a piece of the longer text stands in the shorter, or one of its fields is cut there
  abbrev pub Cut : {A : Type 0} → Format A → ℕ → Type 0
  Cut t a = (p : ℕ) × Fault s t a missing p

  pub cut : {A : Type 0} (t : Format A) (a : ℕ) (y : A) (c : ℕ) → Piece (s ++ more) t a y c → Piece s t a y c ⊎ Cut t a
  cut (known x) a y c h = inl h
  cut (field w) a v c h = go (leb (a + w) (length s)) refl
    where
      go : (b : Bool) → leb (a + w) (length s) ≡ b → Piece s (field w) a v c ⊎ Cut (field w) a
      go true e =
          let k : a + w ≤ length s = leb-true (a + w) (length s) e in
          inl (k, sym (low_stays w a k) ∙ h.1, h.2)
      go false e = inr (a, (leb-false (a + w) (length s) e, refl, refl))
  cut (then t next) a y c h = go (cut t a h.0 h.1 h.2) (cut (next h.0) h.1 y c h.3)
    where
      go : Piece s t a h.0 h.1 ⊎ Cut t a → Piece s (next h.0) h.1 y c ⊎ Cut (next h.0) h.1 → Piece s (then t next) a y c ⊎ Cut (then t next) a
      go (inr m) k = inr (m.0, inl m.1)
      go (inl m) (inl k) = inl (h.0, h.1, m, k)
      go (inl m) (inr k) = inr (k.0, inr (h.0, h.1, m, k.1))
  cut (tested t test) a y c h = go (cut t a h.0 c h.1)
    where
      go : Piece s t a h.0 c ⊎ Cut t a → Piece s (tested t test) a y c ⊎ Cut (tested t test) a
      go (inl k) = inl (h.0, k, h.2)
      go (inr m) = inr (m.0, inl m.1)

-- ---- a reader that is written out step by step is the reader of a format
-- after two readings that are the same, and by what was read
pub bind_known : {A B : Type 0} (r q : Read A) (f g : A → ℕ → Read B) → r ≡ q → ((x : A) (c : ℕ) → q ≡ got x c → f x c ≡ g x c) → bind r f ≡ bind q g
bind_known r q f g e h = ap (λ (r : Read _). bind r f) e ∙ go q h
  where
    go : (q : Read _) → ((x : _) (c : ℕ) → q ≡ got x c → f x c ≡ g x c) → bind q f ≡ bind q g
    go (got x c) h = h x c refl
    go (refused number p) h = refl

pub bind_same : {A B : Type 0} (r q : Read A) (f g : A → ℕ → Read B) → r ≡ q → ((x : A) (c : ℕ) → f x c ≡ g x c) → bind r f ≡ bind q g
bind_same r q f g e h = bind_known r q f g e λ x c k. h x c

pub bind_assoc : {A B C : Type 0} (r : Read A) (f : A → ℕ → Read B) (g : B → ℕ → Read C) → bind (bind r f) g ≡ bind r λ x c. bind (f x c) g
bind_assoc (got x c) f g = refl
bind_assoc (refused number p) f g = refl

pub settled_cond : {A : Type 0} (t : Bool) (j : Judged A) (fault c a : ℕ) → settled (cond t j (fails fault)) c a ≡ cond t (settled j c a) (refused fault a)
settled_cond true j fault c a = refl
settled_cond false j fault c a = refl

pub ranged_run : (w low high fault : ℕ) (s : List ℕ) (a : ℕ) → run (ranged w low high fault) s a ≡ field_in w low high fault s a
unfolding run field_in
ranged_run w low high fault s a =
    bind_same (field_at w s a) (field_at w s a) _ _ refl λ v c.
    settled_cond (leb low v) _ fault c a ∙ ap (λ (r : Read ℕ). cond (leb low v) r (refused fault a)) (settled_cond (ltb v high) (passes v) fault c a)

pub signed_run : (low high : ℤ) (s : List ℕ) (a : ℕ) → run (signed_ranged low high) s a ≡ signed_in low high s a
unfolding run signed_in signed_at
signed_run low high s a =
    bind_same (field_at 4 s a) (field_at 4 s a) _ _ refl (λ v c. settled_cond (between_z low high (signed v)) (passes (signed v)) beyond c a)
    ∙ sym (bind_assoc (field_at 4 s a) (λ v c. got (signed v) c) λ z c. cond (between_z low high z) (got z c) (refused beyond a))

-- such a piece, as the code reads it
pub ranged_piece : (w low high fault : ℕ) (s : List ℕ) (a v c : ℕ) → Piece s (ranged w low high fault) a v c → field_in w low high fault s a ≡ got v c
ranged_piece w low high fault s a v c h = sym (ranged_run w low high fault s a) ∙ piece_read s (ranged w low high fault) a v c h

pub signed_piece : (low high : ℤ) (s : List ℕ) (a : ℕ) (z : ℤ) (c : ℕ) → Piece s (signed_ranged low high) a z c → signed_in low high s a ≡ got z c
signed_piece low high s a z c h = sym (signed_run low high s a) ∙ piece_read s (signed_ranged low high) a z c h
