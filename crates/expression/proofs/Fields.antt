-- The four fields of a declared node: what was read keeps to the limits, and then the rule alone decides.
-- Assumes nothing.
use mathlib.Core.Path.{◌≡◌}
use mathlib.Core.Bool.{true}
use mathlib.Core.List.{List}
use Prim.Native.Nat.{ℕ, ◌+◌}
use native.Mathlib.Omega.{arith}
use lib.IntN.{ℤ}
use borrow.Author.Tests.{le-leb}
use Rattle.reply.specs.Numbers.{beyond}
use Rattle.field.specs.Read.{Read.got}
use Rattle.field.specs.Field.{field_in, signed_in}
use Rattle.field.proofs.Fields.{field_in_passed}
use Rattle.field.proofs.SignedFields.{between_z_holds, signed_in_passed}
use Rattle.envelope.specs.Limits.{l_most, lower_least, lower_most, upper_least, upper_most}
use Rattle.envelope.specs.Made.{Fields, declared_of}
use Rattle.expression.specs.Evaluate.{worth_of, fields_kept, declared_worth}
use Rattle.expression.specs.Inner.Parts.{placed, declared_at}

module _ (k K : ℤ) (l n : ℕ) where
  -- within their limits they pass the test
  pub kept_fields : Fields k K l n → fields_kept k K l n ≡ true
  unfolding fields_kept
  kept_fields f =
      let m = f.limits in
      rw (
        between_z_holds lower_least lower_most k m.k_least m.k_most,
        between_z_holds upper_least upper_most K m.K_least m.K_most,
        le-leb l l_most m.l_within,
        le-leb 1 n f.n_least,
        le-leb n l f.n_most,
      )

  -- with its fields within their limits a declared node is what its rule makes
  pub declared_worth_lem : Fields k K l n → declared_worth k K l n ≡ worth_of (declared_of k K l n)
  unfolding declared_worth
  declared_worth_lem f = rw (kept_fields f)

  module _
      (s : List ℕ)
      (a a₁ a₂ a₃ a₄ : ℕ)
      (k_read : signed_in lower_least lower_most s a ≡ got k a₁)
      (K-read : signed_in upper_least upper_most s a₁ ≡ got K a₂)
      (l_read : field_in 4 1 (l_most + 1) beyond s a₂ ≡ got l a₃)
      (n_read : field_in 4 1 (l + 1) beyond s a₃ ≡ got n a₄) where
    -- what was read keeps to the limits
    pub fields_read : Fields k K l n
    fields_read =
        let p = signed_in_passed lower_least lower_most s a k a₁ k_read in
        let q = signed_in_passed upper_least upper_most s a₁ K a₂ K-read in
        let f = field_in_passed 4 1 (l_most + 1) beyond s a₂ l a₃ l_read in
        let g = field_in_passed 4 1 (l + 1) beyond s a₃ n a₄ n_read in
        record {
          limits = record { l_within = omega (arith, f.1); k_least = p.0; k_most = p.1; K_least = q.0; K_most = q.1 };
          n_least = g.0;
          n_most = omega (arith, g.1);
        }

    -- and is given to the rule
    pub declared_read : (tag : ℕ) → declared_at s tag a ≡ placed (worth_of (declared_of k K l n)) a₄ tag
    unfolding declared_at
    declared_read tag = rw (k_read, K-read, l_read, n_read, declared_worth_lem fields_read)
