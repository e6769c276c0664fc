-- Tags and their numbers: a number in range is that of one tag, and no other is of any; the reader of a tag. Assumes nothing.
use mathlib.Core.Path.{◌≡◌, refl, sym, ap, ◌∙◌}
use mathlib.Core.Bool.{Bool, true, false, cond}
use mathlib.Core.Logic.{◌⊎◌, inl, inr}
use mathlib.Core.List.{List, [], ◌∷◌}
use Prim.Native.Nat.{ℕ, suc, ◌+◌, ◌≤◌, ◌<◌}
use native.Mathlib.Omega.{arith}
use lib.Dec.{eqb, leb, ltb}
use lib.ListN.{length}
use borrow.Author.Tests.{ltb-true, ltb-false, eqb-true, eqb-false, le-leb, lt-leb, lt-ltb, le-ltb}
use Rattle.reply.specs.Numbers.{unknown}
use Rattle.field.specs.Read.{Read, Read.got, Read.refused, bind, mapped}
use Rattle.field.specs.Field.{field_at, field_in}
use Rattle.field.specs.Format.{Judged, Judged.passes, Judged.fails}
use Rattle.field.specs.Run.{settled, run}
use Rattle.field.specs.Spelling.{AllBytes, Bytes}
use Rattle.field.proofs.Spelling.{first, one_byte, limit1}
use Rattle.field.proofs.Fields.{field_got, byte_in_bytes}
use Rattle.expression.specs.declared.Tag.{Tag}
use Rattle.expression.specs.Expression.{tag_number, tag_most, Expr, depth, spell}
use Rattle.expression.specs.Format.{tags, tag_of, tag}

-- the numbers of these tags follow one another, from n on
abbrev Follow : ℕ → List Tag → Type 0
Follow n [] = Unit
Follow n (t ∷ ts) = (tag_number t ≡ n) × Follow (suc n) ts

-- what a number says where those from low to below high are tags
abbrev pub Says : ℕ → ℕ → ℕ → Judged Tag → Type 0
Says low high v (passes t) = (tag_number t ≡ v) × (low ≤ v) × (v < high)
Says low high v (fails number) = (number ≡ unknown) × ((v < low) ⊎ (high ≤ v))

says_among : (ts : List Tag) (n v : ℕ) → Follow n ts → Says n (n + length ts) v (tag_of ts v)
says_among [] n v f = (refl, go (ltb v n) refl)
  where
    go : (b : Bool) → ltb v n ≡ b → (v < n) ⊎ (n + 0 ≤ v)
    go true e = inl (ltb-true v n e)
    go false e = inr (omega (arith, ltb-false v n e))
says_among (t ∷ ts) n v f = go (eqb v (tag_number t)) refl (tag_of ts v) (says_among ts (suc n) v f.1)
  where
    go : (b : Bool) → eqb v (tag_number t) ≡ b → (j : Judged Tag) → Says (suc n) (suc n + length ts) v j → Says n (n + suc (length ts)) v (cond b (passes t) j)
    go true e j h =
        let z : v ≡ tag_number t = eqb-true v (tag_number t) e in
        (sym z, omega (arith, f.0), omega (arith, f.0))
    go false e (passes u) h = (h.0, omega (arith, h.1), omega (arith, h.2))
    go false e (fails number) (k, inl l) = (k, inl (omega (arith, f.0, eqb-false v (tag_number t) e)))
    go false e (fails number) (k, inr l) = (k, inr (omega arith))

-- every number: one from 1 to the largest is a tag's, any other is unknown
pub says : (v : ℕ) → Says 1 (tag_most + 1) v (tag_of tags v)
says v = says_among tags 1 v (refl, (refl, (refl, (refl, (refl, tt)))))

-- and a tag's number says that tag
pub known_tag : (t : Tag) → tag_of tags (tag_number t) ≡ passes t
known_tag Tag.Word = refl
known_tag Tag.Declared = refl
known_tag Tag.Not = refl
known_tag Tag.On = refl
known_tag Tag.Clock = refl

tag_range : (t : Tag) → Says 1 (tag_most + 1) (tag_number t) (passes t)
tag_range t = rw (known_tag t) at (says (tag_number t))

-- ---- the reader of a tag, which gives it, and the code's, which gives its number
module _ (s : List ℕ) where
  tag_run : (a : ℕ) → mapped tag_number (run tag s a) ≡ field_in 1 1 (tag_most + 1) unknown s a
  unfolding run field_in
  tag_run a = go (field_at 1 s a)
    where
      by : (v c : ℕ) (j : Judged Tag) → Says 1 (tag_most + 1) v j
          → mapped tag_number (settled j c a) ≡ cond (leb 1 v) (cond (ltb v (tag_most + 1)) (got v c) (refused unknown a)) (refused unknown a)
      by v c (passes t) h = rw (le-leb 1 v h.1, lt-ltb v (tag_most + 1) h.2, h.0)
      by v c (fails number) (k, inl l) = rw (lt-leb 1 v l, k)
      by v c (fails number) (k, inr l) = rw (le-leb 1 v (omega arith), le-ltb v (tag_most + 1) l, k)

      go : (r : Read ℕ) → mapped tag_number (bind r λ v c. settled (tag_of tags v) c a)
          ≡ (bind r λ v c. cond (leb 1 v) (cond (ltb v (tag_most + 1)) (got v c) (refused unknown a)) (refused unknown a))
      go (got v c) = by v c (tag_of tags v) (says v)
      go (refused number p) = refl

  -- a tag is read exactly where its number stands
  pub tag_bytes : AllBytes s → (a : ℕ) (t : Tag) (c : ℕ) → run tag s a ≡ got t c → Bytes s a (tag_number t ∷ []) c
  tag_bytes bytes a t c e = (byte_in_bytes s bytes 1 (tag_most + 1) unknown a (tag_number t) c (sym (tag_run a) ∙ ap (mapped tag_number) e)).2

  pub tag_got : (t : Tag) {a c : ℕ} {xs : List ℕ} → Bytes s a (tag_number t ∷ xs) c → run tag s a ≡ got t (suc a)
  unfolding run
  tag_got t {a} b =
      let l : tag_number t < 256 = omega (arith, tag_range t) in
      rw (field_got s 1 a (tag_number t) (suc a) (omega (arith, limit1)) (rw (one_byte (tag_number t) l) (first b).0), known_tag t)

-- ---- an expression has a level, and a tag
level_and_tag : (x : Expr) → (0 < depth x) × (0 < length (spell x))
unfolding depth spell
level_and_tag (Expr.word i) = (omega arith, omega arith)
level_and_tag (Expr.declared k K l n) = (omega arith, omega arith)
level_and_tag (Expr.negated x) = (omega arith, omega arith)
level_and_tag (Expr.on x y) = (omega arith, omega arith)
level_and_tag (Expr.clock i) = (omega arith, omega arith)

pub some_depth : (x : Expr) → 0 < depth x
some_depth x = (level_and_tag x).0

pub has_tag : (x : Expr) → 0 < length (spell x)
has_tag x = (level_and_tag x).1
