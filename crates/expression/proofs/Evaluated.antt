-- Every node that the rules give an expression is taken, and what each rule went through. Assumes nothing.
use mathlib.Core.Path.{◌≡◌, refl, sym, subst}
use mathlib.Core.Bool.{Bool, true, false, cond}
use mathlib.Core.List.{List}
use mathlib.Core.Option.{Option, none, some}
use Prim.Native.Nat.{ℕ, ◌<◌}
use native.Mathlib.Omega.{arith}
use lib.IntN.{ℤ}
use lib.Dec.{leb}
use lib.ListN.{length, get_elem?}
use borrow.Author.Tests.{leb-true}
use Rattle.reply.specs.Numbers.{beyond}
use Rattle.field.specs.Field.{between_z}
use Rattle.field.proofs.SignedFields.{between_z_true}
use Rattle.envelope.specs.declared.Envelope.{Envelope}
use Rattle.envelope.specs.declared.Node.{Node}
use Rattle.std.specs.Prelude.{Ok, Err}
use Rattle.envelope.specs.Limits.{l_most, lower_least, lower_most, upper_least, upper_most}
use Rattle.envelope.specs.Envelope.{Taken, normal_of, not_of, on_of}
use Rattle.envelope.specs.Made.{Made, node_of, Fields, declared_of, negated_of, on_within_limits}
use Rattle.envelope.proofs.Tests.{both_true}
use Rattle.envelope.proofs.Makings.{declared_good, negated_good, on_good}
use Rattle.envelope.proofs.Taken.{declared_taken, not_taken, on_taken}
use Rattle.expression.specs.Expression.{Expr}
use Rattle.expression.specs.Expression.Expr.{word, declared, negated, on, clock}
use Rattle.expression.specs.Evaluate.{Worth, Worth.good, Worth.fault, worth_of, onward, joint, listed, fields_kept, declared_worth, evaluate}
use Rattle.expression.specs.Inner.Nodes.{AllTaken}
use Rattle.expression.specs.Spelled.{InRange}
use Rattle.expression.proofs.Lookup.{lookup_below}

-- ---- what a chain of steps that ends in a node went through
pub fault_good : {A : Type 0} {number : ℕ} {x : Node} → fault number ≡ good x → A
fault_good h = let z : ◌≡◌ {A = ℕ} 0 1 = cc in absurd (omega arith)

pub onward_good : (m : Worth) (go : Node → Worth) (x : Node) → onward m go ≡ good x → (a : Node) × (m ≡ good a) × (go a ≡ good x)
onward_good (good a) go x h = (a, refl, h)
onward_good (fault number) go x h = fault_good h

-- two parts, and their rule
pub joint_good : (rule : Envelope → Envelope → Made) (m o : Worth) (x : Node) → joint rule m o ≡ good x
    → (a b : Node) × (m ≡ good a) × (o ≡ good b) × (worth_of (rule a.envelope b.envelope) ≡ good x)
joint_good rule (good a) (good b) x h = (a, b, refl, refl, h)
joint_good rule (good a) (fault number) x h = fault_good h
joint_good rule (fault number) o x h = fault_good h

pub worth_good : (m : Made) (x : Node) → worth_of m ≡ good x → m ≡ Ok x
worth_good (Ok a) x h = cc
worth_good (Err f) x h = fault_good h

pub listed_good : (o : Option Node) (x : Node) → listed o ≡ good x → o ≡ some x
listed_good none x h = fault_good h
listed_good (some a) x h = cc

cond_good : (t : Bool) (m : Worth) (number : ℕ) (x : Node) → cond t m (fault number) ≡ good x → (t ≡ true) × (m ≡ good x)
cond_good true m number x h = (refl, h)
cond_good false m number x h = fault_good h

-- ---- each rule

-- the test of a declared node's fields
pub fields_kept_lem : (k K : ℤ) (l n : ℕ) → fields_kept k K l n ≡ true → Fields k K l n
unfolding fields_kept
fields_kept_lem k K l n h =
    let p = both_true (between_z lower_least lower_most k) _ h in
    let q = both_true (between_z upper_least upper_most K) _ p.1 in
    let r = both_true (leb l l_most) _ q.1 in
    let t = both_true (leb 1 n) (leb n l) r.1 in
    let a = between_z_true lower_least lower_most k p.0 in
    let b = between_z_true upper_least upper_most K q.0 in
    record {
      limits = record { l_within = leb-true l l_most r.0; k_least = a.0; k_most = a.1; K_least = b.0; K_most = b.1 };
      n_least = leb-true 1 n t.0;
      n_most = leb-true n l t.1;
    }

-- what a rule made: that envelope, and it is taken
pub record Result (e : Envelope) (x : Node) : Type 0 where
  pub same : x ≡ node_of e
  pub taken : Taken x.envelope

result : (e : Envelope) (x : Node) → x ≡ node_of e → Taken e → Result e x
result e x h t = record { same = h; taken = subst (λ (y : Node). Taken y.envelope) (sym h) t }

pub declared_result : (k K : ℤ) (l n : ℕ) (x : Node) → declared_worth k K l n ≡ good x → Fields k K l n × Result (normal_of k K l n) x
unfolding declared_worth
declared_result k K l n x h =
    let p = cond_good (fields_kept k K l n) _ beyond x h in
    let q = declared_good k K l n (worth_good (declared_of k K l n) x p.1) in
    let f = fields_kept_lem k K l n p.0 in
    (f, result _ x q.0 (declared_taken k K l n f q.1))

pub negated_result : (a x : Node) → Taken a.envelope → worth_of (negated_of a.envelope) ≡ good x → (a.envelope.n < a.envelope.l) × Result (not_of a.envelope) x
negated_result a x t h =
    let q = negated_good a.envelope (worth_good (negated_of a.envelope) x h) in
    let lt : a.envelope.n < a.envelope.l = omega (arith, q.2, t.n_most) in
    (lt, result _ x q.0 (not_taken a.envelope t lt q.1))

pub on_result : (a b x : Node) → Taken a.envelope → Taken b.envelope → worth_of (on_within_limits a.envelope b.envelope) ≡ good x → Result (on_of a.envelope b.envelope) x
on_result a b x s t h =
    let q = on_good a.envelope b.envelope (worth_good (on_within_limits a.envelope b.envelope) x h) in
    result _ x q.0 (on_taken a.envelope b.envelope s t q.1)

-- ---- an expression: its fields are in range, and its node is taken
module _ (ws cs : List Node) where
  record Evaluated (x : Expr) (a : Node) : Type 0 where
    pub range : InRange (length ws) (length cs) x
    pub taken : AllTaken ws → AllTaken cs → Taken a.envelope

  evaluated : (x : Expr) (a : Node) → evaluate ws cs x ≡ good a → Evaluated x a
  unfolding evaluate
  evaluated (word i) a h =
      let e = listed_good (get_elem? ws i) a h in
      record { range = lookup_below ws i a e; taken = λ tw tc. tw i a e }
  evaluated (declared k K l n) a h =
      let r = declared_result k K l n a h in
      record { range = r.0; taken = λ tw tc. r.1.taken }
  evaluated (negated x) a h =
      let r = onward_good (evaluate ws cs x) _ a h in
      let p = evaluated x r.0 r.1 in
      record { range = p.range; taken = λ tw tc. (negated_result r.0 a (p.taken tw tc) r.2).1.taken }
  evaluated (on x y) a h =
      let r = joint_good on_within_limits (evaluate ws cs x) (evaluate ws cs y) a h in
      let p = evaluated x r.0 r.2 in
      let q = evaluated y r.1 r.3 in
      record { range = (p.range, q.range); taken = λ tw tc. (on_result r.0 r.1 a (p.taken tw tc) (q.taken tw tc) r.4).taken }
  evaluated (clock i) a h =
      let e = listed_good (get_elem? cs i) a h in
      record { range = lookup_below cs i a e; taken = λ tw tc. tc i a e }

  pub evaluate_taken : AllTaken ws → AllTaken cs → (x : Expr) (a : Node) → evaluate ws cs x ≡ good a → Taken a.envelope
  evaluate_taken tw tc x a h = (evaluated x a h).taken tw tc

  pub evaluate_range : (x : Expr) (a : Node) → evaluate ws cs x ≡ good a → InRange (length ws) (length cs) x
  evaluate_range x a h = (evaluated x a h).range
