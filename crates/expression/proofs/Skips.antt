-- Expressions skipped node by node: what is left to skip after each node. Assumes nothing.
use mathlib.Core.Path.{◌≡◌, refl, ◌∙◌, subst}
use mathlib.Core.List.{List, ◌++◌}
use Prim.Native.Nat.{ℕ, suc, ◌+◌, ◌-◌, ◌≤◌, ◌<◌}
use native.Mathlib.Omega.{arith}
use lib.ListN.{length, get_or, length-append}
use Rattle.std.specs.Prelude.{Result, Ok, Err, IsOk}
use Rattle.reply.specs.declared.Cause.{Cause}
use Rattle.field.specs.Format.{Judged.passes}
use Rattle.field.specs.Spelling.{Bytes, Bytes.byte}
use Rattle.field.proofs.Spelling.{end, split, bytes_of_length}
use Rattle.expression.specs.declared.Tag.{Tag}
use Rattle.expression.specs.Expression.{Expr, spell}
use Rattle.expression.specs.Format.{tags, tag_of, judged}
use Rattle.expression.specs.Expression.Expr.{word, declared, negated, on, clock}
use Rattle.expression.specs.Inner.Skipping.{own_bytes, parts_of, HasExpr}
use Rattle.expression.proofs.Tags.{has_tag}

-- n expressions are left to skip, from a to c
pub data Left (s : List ℕ) : ℕ → ℕ → ℕ → Type 0 where
  none : {a : ℕ} → a ≤ length s → Left s 0 a a
  one : {n a b c : ℕ} (x : Expr) → Bytes s a (spell x) b → Left s n b c → Left s (suc n) a c

-- the tag that an expression begins with
abbrev tag_in : Expr → Tag
tag_in (word i) = Tag.Word
tag_in (declared k K l n) = Tag.Declared
tag_in (negated x) = Tag.Not
tag_in (on x y) = Tag.On
tag_in (clock i) = Tag.Clock

module _ {s : List ℕ} where
  first_tag : {a b : ℕ} (x : Expr) → Bytes s a (spell x) b → tag_of tags (get_or s a 0) ≡ passes (tag_in x)
  unfolding spell
  first_tag (word i) (byte p e q) = rw e
  first_tag (declared k K l n) (byte p e q) = rw e
  first_tag (negated x) (byte p e q) = rw e
  first_tag (on x y) (byte p e q) = rw e
  first_tag (clock i) (byte p e q) = rw e

  pub left_start : {a c : ℕ} → HasExpr s a c → Left s 1 a c
  left_start h = one h.expr h.bytes (none (end h.bytes).1)

  pub left_none : {a c : ℕ} → Left s 0 a c → a ≡ c
  left_none (none l) = refl

  -- no fewer bytes than expressions
  pub left_within : {n a c : ℕ} → Left s n a c → (n + a ≤ c) × (c ≤ length s)
  left_within (none l) = (omega arith, l)
  left_within (one x b r) =
      let q = left_within r in
      (omega (arith, has_tag x, end b, q.0), q.1)

  -- ---- one node skipped: its parts stand behind its own bytes
  same : {n m a b c : ℕ} → n ≡ m → a ≡ b → Left s n a c → Left s m b c
  same e f h = rw (← e, ← f) h

  two_left : {n a b c : ℕ} (x y : Expr) → Bytes s (suc a) (spell x ++ spell y) b → Left s n b c → Left s (n + 2) (a + 1) c
  two_left x y q r =
      let k = split (spell x) (spell y) q in
      same (omega arith) (omega arith) (one x k.1 (one y k.2 r))

  node_left : {n a b c : ℕ} (x : Expr) → Bytes s a (spell x) b → Left s n b c → Left s (n + parts_of (tag_in x)) (a + own_bytes (tag_in x)) c
  unfolding spell
  node_left (word i) (byte p e q) r = same (omega arith) (omega (arith, end q, bytes_of_length 2 i)) r
  node_left (declared k K l n) (byte p e q) r =
      let many = simp (length-append, bytes_of_length) at (end q).0 in
      same (omega arith) (omega arith) r
  node_left (negated x) (byte p e q) r = same (omega arith) (omega arith) (one x q r)
  node_left (on x y) (byte p e q) r = two_left x y q r
  node_left (clock i) (byte p e q) r = same (omega arith) (omega (arith, end q, bytes_of_length 2 i)) r

  -- the tag that was read at the first of them
  tag_is : {n a c : ℕ} (r : Result Tag Cause) → judged r ≡ tag_of tags (get_or s a 0) → 0 < n → Left s n a c
      → (t : Tag) × (r ≡ Ok t) × Left s (n - 1 + parts_of t) (a + own_bytes t) c
  tag_is r e lt (none l) = absurd (omega arith)
  tag_is r e lt (one {n = n} x b q) = (tag_in x, ok r (e ∙ first_tag x b), same (omega arith) refl (node_left x b q))
    where
      ok : {t : Tag} (r : Result Tag Cause) → judged r ≡ passes t → r ≡ Ok t
      ok (Ok u) h = cc
      ok (Err cause) h = absurd (cc)

  pub left_tag : {n a c : ℕ} (r : Result Tag Cause) → judged r ≡ tag_of tags (get_or s a 0) → 0 < n → Left s n a c → IsOk r
  left_tag r e lt h = rw (tag_is r e lt h).1 refl

  pub left_next : {n a c : ℕ} {r : Result Tag Cause} (t : Tag) → judged r ≡ tag_of tags (get_or s a 0) → r ≡ Ok t → 0 < n → Left s n a c → Left s (n - 1 + parts_of t) (a + own_bytes t) c
  left_next {n} {a} {c} {r} t e f lt h =
      let q = tag_is r e lt h in
      let z : q.0 ≡ t = cc (q.1, f) in
      subst (λ (u : Tag). Left s (n - 1 + parts_of u) (a + own_bytes u) c) z q.2
