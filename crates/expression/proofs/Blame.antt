-- What the reader answers to an expression that is spelled there, in range and not too deep: its node, or the refusal of its worth at the
-- tag of the node to blame. Assumes nothing.
use mathlib.Core.Path.{◌≡◌, refl, ap, ◌∙◌}
use mathlib.Core.List.{List, ◌∷◌, ◌++◌}
use Prim.Native.Nat.{ℕ, zero, suc, ◌+◌, ◌≤◌, ◌<◌}
use native.Mathlib.Omega.{arith}
use lib.IntN.{ℤ}
use lib.ListN.{length, get_elem?}
use Rattle.reply.specs.Numbers.{beyond}
use Rattle.whole.proofs.Bridge.{orders}
use Rattle.field.specs.Read.{Read, Read.got, Read.refused, bind}
use Rattle.field.specs.Spelling.{bytes_of, twos, Bytes}
use Rattle.field.specs.Format.{Format, Format.known, Format.then}
use Rattle.field.specs.Run.{settled, run}
use Rattle.field.proofs.Spelling.{end, split, tail, limit2, limit4}
use Rattle.field.proofs.Fields.{field_got, field_in_got}
use Rattle.field.proofs.SignedFields.{signed_in_got}
use Rattle.field.proofs.Format.{ranged_run, signed_run}
use Rattle.envelope.specs.declared.Envelope.{Envelope}
use Rattle.envelope.specs.declared.Node.{Node}
use Rattle.std.specs.Prelude.{Ok, Err}
use Rattle.envelope.specs.Limits.{l_most, lower_least, lower_most, upper_least, upper_most}
use Rattle.envelope.specs.Made.{Made, Fields, declared_of, negated_of, on_within_limits}
use Rattle.expression.specs.declared.Tag.{Tag}
use Rattle.expression.specs.Expression.{tag_number, Expr, depth, spell}
use Rattle.expression.specs.Expression.Expr.{word, declared, negated, on, clock}
use Rattle.expression.specs.Evaluate.{Worth, Worth.good, Worth.fault, worth_of, onward, joint, listed, declared_worth, evaluate}
use Rattle.expression.specs.Reader.{expr_at}
use Rattle.expression.specs.Format.{Valued, named, both, parts, kept, expression}
use Rattle.expression.specs.Spelled.{indexes, InRange}
use Rattle.expression.specs.Blame.{faulty, faulty_of, blame}
use Rattle.expression.proofs.Lookup.{lookup_there}
use Rattle.expression.proofs.Fields.{declared_worth_lem}
use Rattle.expression.proofs.Tags.{some_depth, tag_got}
use Rattle.expression.proofs.Format.{complete, behind}

-- an expression with its worth: what is read, or the refusal at a tag
abbrev pub place : Expr → Worth → ℕ → ℕ → Read Valued
place x (good a) c tag = got (record { expr = x; node = a }) c
place x (fault number) c tag = refused number tag

refused_at_lem : {number a b : ℕ} → a ≡ b → ◌≡◌ {A = Read Valued} (refused number a) (refused number b)
refused_at_lem {number} e = ap (λ (t : ℕ). refused number t) e

-- ---- a complete node
kept_place : (x : Expr) (m : Made) (c a : ℕ) → settled (kept x m) c a ≡ place x (worth_of m) c (a + 0)
kept_place x (Ok e) c a = refl
kept_place x (Err f) c a = refused_at_lem (omega arith)

module _ (s : List ℕ) where
  named_met : (make : ℕ → Expr) (xs : List Node) (i a c : ℕ) → length xs ≤ indexes → i < length xs → Bytes s (suc a) (bytes_of 2 i) c
      → bind (run (named make xs) s (suc a)) (complete a) ≡ place (make i) (listed (get_elem? xs i)) c (a + 0)
  unfolding run
  named_met make xs i a c h p b = rw (field_got s 2 (suc a) i c (omega (arith, limit2)) b, (lookup_there xs i p).1)

  declared_met : (ws cs : List Node) (part : Format Valued) (k K : ℤ) (l n a c : ℕ) → Fields k K l n → Bytes s (suc a) (bytes_of 4 (twos k) ++ (bytes_of 4 (twos K) ++ (bytes_of 4 l ++ bytes_of 4 n))) c
      → bind (run (parts ws cs part Tag.Declared) s (suc a)) (complete a) ≡ place (declared k K l n) (declared_worth k K l n) c (a + 0)
  unfolding parts run
  declared_met ws cs part k K l n a c t b =
      let m = t.limits in
      let s₁ = split (bytes_of 4 (twos k)) (bytes_of 4 (twos K) ++ (bytes_of 4 l ++ bytes_of 4 n)) b in
      let s₂ = split (bytes_of 4 (twos K)) (bytes_of 4 l ++ bytes_of 4 n) s₁.2 in
      let s₃ = split (bytes_of 4 l) (bytes_of 4 n) s₂.2 in
      let f₁ = signed_in_got s lower_least lower_most (suc a) k s₁.0 (omega (arith, orders)) (omega (arith, orders)) m.k_least m.k_most s₁.1 in
      let f₂ = signed_in_got s upper_least upper_most s₁.0 K s₂.0 (omega (arith, orders)) (omega (arith, orders)) m.K_least m.K_most s₂.1 in
      let f₃ = field_in_got s 4 1 (l_most + 1) beyond s₂.0 l s₃.0 (omega (arith, t.n_least, t.n_most)) (omega (arith, m.l_within)) (omega (arith, limit4, m.l_within)) s₃.1 in
      let f₄ = field_in_got s 4 1 (l + 1) beyond s₃.0 n c t.n_least (omega (arith, t.n_most)) (omega (arith, limit4, t.n_most, m.l_within)) s₃.2 in
      rw (
        signed_run lower_least lower_most s (suc a) ∙ f₁,
        signed_run upper_least upper_most s s₁.0 ∙ f₂,
        ranged_run 4 1 (l_most + 1) beyond s s₂.0 ∙ f₃,
        ranged_run 4 1 (l + 1) beyond s s₃.0 ∙ f₄,
        declared_worth_lem k K l n t,
      )
      (kept_place (declared k K l n) (declared_of k K l n) c a)

  -- over a part's worth, and over those of two: the second starts at e, where the first ends
  module _ (part : Format Valued) where
    negated_met : (x : Expr) (m : Worth) (a b c : ℕ) → run part s (suc a) ≡ place x m c (suc a + b)
        → bind (run (then part λ x. known {A = Expr × Made} (negated x.expr, negated_of x.node.envelope)) s (suc a)) (complete a)
        ≡ place (negated x) (onward m λ p. worth_of (negated_of p.envelope)) c (a + faulty m 0 (1 + b))
    unfolding run
    negated_met x (good p) a b c h = rw h (kept_place (negated x) (negated_of p.envelope) c a)
    negated_met x (fault number) a b c h = rw h (refused_at_lem (omega arith))

    both_met : (make : Expr → Expr → Expr) (rule : Envelope → Envelope → Made) (x y : Expr) (m o : Worth) (a b b' e c size : ℕ)
        → run part s (suc a) ≡ place x m e (suc a + b) → run part s e ≡ place y o c (e + b') → e ≡ suc a + size
        → bind (run (both part make rule) s (suc a)) (complete a) ≡ place (make x y) (joint rule m o) c (a + faulty_of m o size b b')
    unfolding run
    both_met make rule x y (good p) (good q) a b b' e c size h k z = rw (h, k) (kept_place (make x y) (rule p.envelope q.envelope) c a)
    both_met make rule x y (good p) (fault number) a b b' e c size h k z = rw (h, k) (refused_at_lem (omega arith))
    both_met make rule x y (fault number) o a b b' e c size h k z = rw h (refused_at_lem (omega arith))

-- ---- an expression
module _ (s : List ℕ) (ws cs : List Node) (hw : length ws ≤ indexes) (hc : length cs ≤ indexes) where
  -- one with two parts
  both_answered : (d : ℕ) (t : Tag) (make : Expr → Expr → Expr) (rule : Envelope → Envelope → Made) → parts ws cs (expression d ws cs) t ≡ both (expression d ws cs) make rule
      → (x y : Expr) (a c : ℕ) → Bytes s a (tag_number t ∷ (spell x ++ spell y)) c
      → ((a c : ℕ) → Bytes s a (spell x) c → expr_at d s ws cs a ≡ place x (evaluate ws cs x) c (a + blame ws cs x))
      → ((a c : ℕ) → Bytes s a (spell y) c → expr_at d s ws cs a ≡ place y (evaluate ws cs y) c (a + blame ws cs y))
      → expr_at (suc d) s ws cs a ≡ place (make x y) (joint rule (evaluate ws cs x) (evaluate ws cs y)) c (a + faulty_of (evaluate ws cs x) (evaluate ws cs y) (length (spell x)) (blame ws cs x) (blame ws cs y))
  unfolding expr_at
  both_answered d t make rule e x y a c b p q =
      let k = split (spell x) (spell y) (tail b) in
      behind s ws cs d a t (suc a) (tag_got s t b)
      ∙ rw e (both_met s (expression d ws cs) make rule x y (evaluate ws cs x) (evaluate ws cs y) a (blame ws cs x) (blame ws cs y) k.0 c (length (spell x)) (p (suc a) k.0 k.1) (q k.0 c k.2) (end k.1).0)

  pub answered : (x : Expr) (d a c : ℕ) → InRange (length ws) (length cs) x → depth x ≤ d → Bytes s a (spell x) c
      → expr_at d s ws cs a ≡ place x (evaluate ws cs x) c (a + blame ws cs x)
  unfolding depth evaluate spell expr_at parts blame
  answered x zero a c r p b = absurd (omega (arith, some_depth x))
  answered (word i) (suc d) a c r p b = behind s ws cs d a Tag.Word (suc a) (tag_got s Tag.Word b) ∙ named_met s word ws i a c hw r (tail b)
  answered (declared k K l n) (suc d) a c r p b =
      behind s ws cs d a Tag.Declared (suc a) (tag_got s Tag.Declared b) ∙ declared_met s ws cs (expression d ws cs) k K l n a c r (tail b)
  answered (negated x) (suc d) a c r p b =
      behind s ws cs d a Tag.Not (suc a) (tag_got s Tag.Not b)
      ∙ negated_met s (expression d ws cs) x (evaluate ws cs x) a (blame ws cs x) c (answered x d (suc a) c r (omega arith) (tail b))
  answered (on x y) (suc d) a c r p b =
      both_answered d Tag.On on on_within_limits refl x y a c b (λ a c. answered x d a c r.0 (omega arith)) (λ a c. answered y d a c r.1 (omega arith))
  answered (clock i) (suc d) a c r p b = behind s ws cs d a Tag.Clock (suc a) (tag_got s Tag.Clock b) ∙ named_met s clock cs i a c hc r (tail b)

  -- one that the rules refuse
  pub fault_read : (x : Expr) (d a number c : ℕ) → InRange (length ws) (length cs) x → depth x ≤ d → Bytes s a (spell x) c → evaluate ws cs x ≡ fault number
      → expr_at d s ws cs a ≡ refused number (a + blame ws cs x)
  fault_read x d a number c r p b h = answered x d a c r p b ∙ ap (λ (m : Worth). place x m c (a + blame ws cs x)) h
