-- What the evaluator is to answer, tag by tag, over tables.
-- Assumes nothing.
use mathlib.Core.Path.{◌≡◌, refl, sym, ap, ◌∙◌}
use mathlib.Core.Bool.{cond}
use mathlib.Core.List.{List}
use mathlib.Core.Option.{Option, none, some}
use Prim.Native.Nat.{ℕ, zero, suc, ◌+◌, ◌-◌}
use native.Mathlib.Numerals.{sub-one}
use native.Mathlib.Omega.{arith}
use lib.Dec.{eqb}
use lib.ListN.{get_elem?}
use borrow.Author.Tests.{ne_eqb}
use Rattle.reply.specs.Numbers.{beyond, too_deep}
use Rattle.field.specs.Read.{Read, Read.got, Read.refused, bind, mapped}
use Rattle.field.specs.Field.{field_at}
use Rattle.field.specs.Format.{Judged.fails, Format}
use Rattle.field.specs.Run.{settled, run}
use Rattle.field.proofs.Format.{ranged_run, signed_run}
use Rattle.envelope.specs.declared.Envelope.{Envelope}
use Rattle.envelope.specs.declared.Node.{Node}
use Rattle.std.specs.Prelude.{Ok, Err}
use Rattle.envelope.specs.Limits.{l_most, lower_least, lower_most, upper_least, upper_most}
use Rattle.envelope.specs.Made.{Made, declared_of, negated_of, on_within_limits}
use Rattle.expression.specs.declared.Tag.{Tag}
use Rattle.expression.specs.Expression.{Expr}
use Rattle.expression.specs.Evaluate.{Worth, worth_of}
use Rattle.expression.specs.Reader.{expr_at, node_in}
use Rattle.expression.specs.Format.{Valued, tag, found, named, parts, expression}
use Rattle.expression.specs.Inner.Parts.{placed, there, listed_at, declared_at}
use Rattle.expression.proofs.Fields.{declared_worth_lem, fields_read}
use Rattle.expression.proofs.Format.{complete}

-- the node of an expression at a with d levels left, or the refusal
abbrev pub answer : List ℕ → List Node → List Node → ℕ → ℕ → Read Node
answer s ws cs d a = mapped node_in (expr_at d s ws cs a)

-- the node alone of what stands behind a tag at a
abbrev alone : ℕ → Read (Expr × Made) → Read Node
alone a r = mapped node_in (bind r (complete a))

alone_placed : (x : Expr) (m : Made) (c a : ℕ) → alone a (got (x, m) c) ≡ placed (worth_of m) c a
alone_placed x (Ok e) c a = refl
alone_placed x (Err f) c a = refl

-- ---- fields, as the code reads them
step : {A : Type 0} (a : ℕ) (r q : Read A) (go : A → ℕ → Read (Expr × Made)) (to : A → ℕ → Read Node) → r ≡ q → ((x : A) (c : ℕ) → q ≡ got x c → alone a (go x c) ≡ to x c)
    → alone a (bind r go) ≡ bind q to
step a r q go to e h = ap (λ (r : Read _). alone a (bind r go)) e ∙ by q h
  where
    by : (q : Read _) → ((x : _) (c : ℕ) → q ≡ got x c → alone a (go x c) ≡ to x c) → alone a (bind q go) ≡ bind q to
    by (got x c) h = h x c refl
    by (refused number p) h = refl

module _ (s : List ℕ) where
  -- an index names a node of a table where there is one
  table_at : (make : ℕ → Expr) (t : List Node) (a c : ℕ) → alone a (run (named make t) s c) ≡ listed_at s t c
  unfolding run listed_at
  table_at make t a c = by (field_at 2 s c)
    where
      at : (i d : ℕ) (o : Option Node) → alone a (settled (found (make i) o) d c) ≡ there o d c
      at i d none = refl
      at i d (some x) = refl

      by : (r : Read ℕ) → alone a (bind r λ i d. settled (found (make i) (get_elem? t i)) d c) ≡ (bind r λ i d. there (get_elem? t i) d c)
      by (got i d) = at i d (get_elem? t i)
      by (refused number p) = refl

  declared_at_lem : (ws cs : List Node) (part : Format Valued) (a c : ℕ) → alone a (run (parts ws cs part Tag.Declared) s c) ≡ declared_at s a c
  unfolding run parts declared_at
  declared_at_lem ws cs part a c =
      step a _ _ _ _ (signed_run lower_least lower_most s c) λ k c₁ r₁.
      step a _ _ _ _ (signed_run upper_least upper_most s c₁) λ K c₂ r₂.
      step a _ _ _ _ (ranged_run 4 1 (l_most + 1) beyond s c₂) λ l c₃ r₃.
      step a _ _ _ _ (ranged_run 4 1 (l + 1) beyond s c₃) λ n c₄ r₄.
      alone_placed (Expr.declared k K l n) (declared_of k K l n) c₄ a
      ∙ ap (λ (w : Worth). placed w c₄ a) (sym (declared_worth_lem k K l n (fields_read k K l n s c c₁ c₂ c₃ c₄ r₁ r₂ r₃ r₄)))

-- ---- an expression
module _ (s : List ℕ) (ws cs : List Node) where
  -- what follows the tag at a, from c on, with d levels left for its parts
  abbrev pub follows : ℕ → ℕ → Tag → ℕ → Read Node
  follows d a Tag.Word c = listed_at s ws c
  follows d a Tag.Declared c = declared_at s a c
  follows d a Tag.Not c = bind (answer s ws cs d c) λ x f. placed (worth_of (negated_of x.envelope)) f a
  follows d a Tag.On c =
      bind (answer s ws cs d c) λ x f.
      bind (answer s ws cs d f) λ y g.
      placed (worth_of (on_within_limits x.envelope y.envelope)) g a
  follows d a Tag.Clock c = listed_at s cs c

  module _ (d a : ℕ) where
    abbrev below : Format Valued
    below = expression d ws cs

    one_part : (make : Expr → Expr) (rule : Envelope → Made) (r : Read Valued)
        → alone a (bind r λ x f. got (make x.expr, rule x.node.envelope) f) ≡ (bind (mapped node_in r) λ x f. placed (worth_of (rule x.envelope)) f a)
    one_part make rule (got x f) = alone_placed (make x.expr) (rule x.node.envelope) f a
    one_part make rule (refused number p) = refl

    two_parts : (make : Expr → Expr → Expr) (rule : Envelope → Envelope → Made) (r : Read Valued) (q : ℕ → Read Valued)
        → alone a (bind r λ x f. bind (q f) λ y g. got (make x.expr y.expr, rule x.node.envelope y.node.envelope) g)
        ≡ (bind (mapped node_in r) λ x f. bind (mapped node_in (q f)) λ y g. placed (worth_of (rule x.envelope y.envelope)) g a)
    two_parts make rule (got x f) q = one_part (make x.expr) (rule x.node.envelope) (q f)
    two_parts make rule (refused number p) q = refl

    part_follows : (t : Tag) (c : ℕ) → alone a (run (parts ws cs below t) s c) ≡ follows d a t c
    unfolding run parts expr_at
    part_follows Tag.Word c = table_at s Expr.word ws a c
    part_follows Tag.Declared c = declared_at_lem s ws cs below a c
    part_follows Tag.Not c = one_part Expr.negated negated_of (run below s c)
    part_follows Tag.On c = two_parts Expr.on on_within_limits (run below s c) (run below s)
    part_follows Tag.Clock c = table_at s Expr.clock cs a c

  -- the tag, then whether a level is left, then what follows the tag
  pub answer_is : (d a : ℕ) → answer s ws cs d a ≡ (bind (run tag s a) λ t c. cond (eqb d 0) (refused too_deep a) (follows (d - 1) a t c))
  unfolding expr_at expression run
  answer_is zero a = by (run tag s a)
    where
      by : (r : Read Tag) → mapped node_in (bind r λ t c. settled (fails 6) c a) ≡ (bind r λ t c. refused too_deep a)
      by (got t c) = refl
      by (refused number p) = refl
  answer_is (suc d) a = rw (ne_eqb (suc d) 0 (λ e. absurd (omega arith)), sub-one) (by (run tag s a))
    where
      by : (r : Read Tag) → alone a (bind r λ t c. run (parts ws cs (below d a) t) s c) ≡ (bind r λ t c. follows d a t c)
      by (got t c) = part_follows d a t c
      by (refused number p) = refl
