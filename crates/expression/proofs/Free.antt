-- At one place of a text there is at most one expression: no spelling is the beginning of another, since one format reads each. Assumes nothing.
use mathlib.Core.Path.{◌≡◌, sym, ◌∙◌}
use mathlib.Core.List.{List, ◌∷◌, ◌++◌}
use Prim.Native.Nat.{ℕ, zero, suc, max, ◌≤◌, ◌<◌}
use native.Mathlib.Omega.{arith}
use lib.IntN.{ℤ}
use Rattle.reply.specs.Numbers.{too_deep}
use Rattle.whole.proofs.Bridge.{orders}
use Rattle.field.specs.Read.{Read, Read.got}
use Rattle.field.specs.Field.{signed, signed_at}
use Rattle.field.specs.Spelling.{bytes_of, twos, Bytes}
use Rattle.field.specs.Format.{Judged.fails, Format, Format.known, Format.field, Format.then, Format.tested}
use Rattle.field.specs.Run.{run}
use Rattle.field.proofs.Spelling.{split, tail, limit2, limit4}
use Rattle.field.proofs.Fields.{field_got}
use Rattle.field.proofs.SignedFields.{signed_got}
use Rattle.field.proofs.Format.{then_got}
use Rattle.expression.specs.declared.Tag.{Tag}
use Rattle.expression.specs.Expression.{tag_number, Expr, depth, spell}
use Rattle.expression.specs.Expression.Expr.{word, declared, negated, on, clock}
use Rattle.expression.specs.Format.{tag}
use Rattle.expression.specs.Spelled.{indexes, Fits, InRange}
use Rattle.expression.proofs.Tags.{some_depth, tag_got}

-- what is in range fits
pub range_fits : (w c : ℕ) → w ≤ indexes → c ≤ indexes → (x : Expr) → InRange w c x → Fits x
range_fits w c hw hc (word i) r = omega arith
range_fits w c hw hc (declared k K l n) r =
    let m = r.limits in (
      record { least = omega (arith, orders, m.k_least); most = omega (arith, orders, m.k_most) },
      record { least = omega (arith, orders, m.K_least); most = omega (arith, orders, m.K_most) },
      omega (arith, limit4, m.l_within),
      omega (arith, limit4, m.l_within, r.n_most),
    )
range_fits w c hw hc (negated x) r = range_fits w c hw hc x r
range_fits w c hw hc (on x y) r = (range_fits w c hw hc x r.0, range_fits w c hw hc y r.1)
range_fits w c hw hc (clock i) r = omega arith

-- an expression with d levels, whatever its numbers
abbrev named : (ℕ → Expr) → Format Expr
named make = then (field 2) λ i. known (make i)

abbrev both : Format Expr → (Expr → Expr → Expr) → Format Expr
both part make = then part λ x. then part λ y. known (make x y)

abbrev integer : Format ℤ
integer = then (field 4) λ v. known (signed v)

abbrev parts : Format Expr → Tag → Format Expr
parts part Tag.Word = named word
parts part Tag.Declared =
    then integer λ k. then integer λ K. then (field 4) λ l. then (field 4) λ n.
    known (declared k K l n)
parts part Tag.Not = then part λ x. known (negated x)
parts part Tag.On = both part on
parts part Tag.Clock = named clock

abbrev plain : ℕ → Format Expr
plain zero = tested tag λ t. fails too_deep
plain (suc d) = then tag (parts (plain d))

module _ (s : List ℕ) where
  behind : (d a : ℕ) (t : Tag) {xs : List ℕ} {c : ℕ} → Bytes s a (tag_number t ∷ xs) c → run (plain (suc d)) s a ≡ run (parts (plain d) t) s (suc a)
  behind d a t b = then_got s tag (parts (plain d)) a t (suc a) (tag_got s t b)

  named_read : (make : ℕ → Expr) (i a c : ℕ) → i < indexes → Bytes s a (bytes_of 2 i) c → run (named make) s a ≡ got (make i) c
  unfolding run
  named_read make i a c h b = rw (field_got s 2 a i c (omega (arith, limit2)) b)

  both_read : (d : ℕ) (make : Expr → Expr → Expr) (x y : Expr) (a c : ℕ) → Bytes s a (spell x ++ spell y) c
      → ((a c : ℕ) → Bytes s a (spell x) c → run (plain d) s a ≡ got x c) → ((a c : ℕ) → Bytes s a (spell y) c → run (plain d) s a ≡ got y c) → run (both (plain d) make) s a ≡ got (make x y) c
  unfolding run
  both_read d make x y a c b h k =
      let q = split (spell x) (spell y) b in
      rw (h a q.0 q.1, k q.0 c q.2)

  plain_read : (x : Expr) (d a c : ℕ) → Fits x → depth x ≤ d → Bytes s a (spell x) c → run (plain d) s a ≡ got x c
  unfolding depth spell run signed_at
  plain_read x zero a c f p b = absurd (omega (arith, some_depth x))
  plain_read (word i) (suc d) a c f p b = behind d a Tag.Word b ∙ named_read word i (suc a) c f (tail b)
  plain_read (declared k K l n) (suc d) a c f p b =
      let p₁ = split (bytes_of 4 (twos k)) _ (tail b) in
      let p₂ = split (bytes_of 4 (twos K)) _ p₁.2 in
      let p₃ = split (bytes_of 4 l) _ p₂.2 in
      behind d a Tag.Declared b
      ∙ rw (
        signed_got s (suc a) k p₁.0 f.0 p₁.1,
        signed_got s p₁.0 K p₂.0 f.1 p₂.1,
        field_got s 4 p₂.0 l p₃.0 f.2 p₃.1,
        field_got s 4 p₃.0 n c f.3 p₃.2,
      )
  plain_read (negated x) (suc d) a c f p b = behind d a Tag.Not b ∙ rw (plain_read x d (suc a) c f (omega arith) (tail b))
  plain_read (on x y) (suc d) a c f p b =
      behind d a Tag.On b ∙ both_read d on x y (suc a) c (tail b) (λ a c. plain_read x d a c f.0 (omega arith)) (λ a c. plain_read y d a c f.1 (omega arith))
  plain_read (clock i) (suc d) a c f p b = behind d a Tag.Clock b ∙ named_read clock i (suc a) c f (tail b)

pub spell_free : {s : List ℕ} (x y : Expr) (a c d : ℕ) → Fits x → Fits y → Bytes s a (spell x) c → Bytes s a (spell y) d → (x ≡ y) × (c ≡ d)
spell_free {s} x y a c d h k b b' =
    let m : ℕ = max (depth x) (depth y) in
    let e : ◌≡◌ {A = Read Expr} (got x c) (got y d) = sym (plain_read s x m a c h (omega arith) b) ∙ plain_read s y m a d k (omega arith) b' in
    (cc, cc)
