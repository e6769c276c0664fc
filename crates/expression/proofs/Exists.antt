-- Every expression that the rules give a node, and so every clock, can stand for some stream. Assumes nothing.
use mathlib.Core.Path.{◌≡◌, subst}
use mathlib.Core.List.{List}
use Prim.Native.Nat.{ℕ, zero, suc, ◌<◌}
use native.Mathlib.Omega.{arith}
use lib.ListN.{length, take, get_elem?}
use Rattle.envelope.specs.declared.Node.{Node}
use Rattle.envelope.specs.Stream.{Stream, Lies}
use Rattle.envelope.specs.Envelope.{normal_of}
use Rattle.envelope.specs.Made.{on_within_limits}
use Rattle.envelope.proofs.Normal.{keeps_normal}
use Rattle.envelope.proofs.Not.{not_stream}
use Rattle.envelope.proofs.On.{on_stream}
use Rattle.envelope.proofs.Word.{word_stream}
use Rattle.envelope.proofs.Taken.{taken_stream}
use Rattle.expression.specs.Expression.{Word, Expr, Clock}
use Rattle.expression.specs.Expression.Expr.{word, declared, negated, on, clock}
use Rattle.expression.specs.Stands.{Stands}
use Rattle.expression.specs.Evaluate.{Worth.good, evaluate, word_node, word_nodes, Worked}
use Rattle.expression.specs.Promise.{AllLegal}
use Rattle.expression.proofs.Lookup.{lookup_below, lookup_there, lookup_take, lookup_map}
use Rattle.expression.proofs.Evaluated.{onward_good, joint_good, listed_good, declared_result, negated_result}
use Rattle.expression.proofs.Sound.{part_taken, sound}

module _ (words : List Word) (clocks : List Clock) (xs : List Node) (w : Worked words clocks xs) (legal : AllLegal words) where
  abbrev ws : List Node
  ws = word_nodes words

  abbrev Some : Expr → Type 0
  Some x = (s : Stream) × Stands words clocks x s

  -- by the expression, where each earlier clock that it can name stands for something
  within : (j : ℕ) → ((i : ℕ) → i < j → i < length clocks → Some (clock i)) → (x : Expr) (a : Node) → evaluate ws (take j xs) x ≡ good a → Some x
  unfolding evaluate
  within j ih (word i) a h =
      let r = lookup_map word_node words i a (listed_good (get_elem? ws i) a h) in
      let s = word_stream r.0.prefix r.0.period (legal i r.0 r.1).a_one in
      (s.0, Stands.word r.1 s.1)
  within j ih (declared k K l n) a h =
      let r = declared_result k K l n a h in
      let s = taken_stream a.envelope r.1.taken in
      let p : Lies s.0 (normal_of k K l n) = subst (λ (x : Node). Lies s.0 x.envelope) r.1.same s.1 in
      (s.0, Stands.declared (keeps_normal k K l n r.0.n_least s.0.bit p))
  within j ih (negated x) a h =
      let r = onward_good (evaluate ws (take j xs) x) _ a h in
      let p : Some x = within j ih x r.0 r.1 in
      let q = negated_result r.0 a (part_taken words clocks xs w legal j x r.0 r.1) r.2 in
      let s = not_stream p.0 r.0.envelope q.0 (sound words clocks xs w legal p.1 j r.0 r.1) in
      (s.0, Stands.negated p.1 s.1)
  within j ih (on x y) a h =
      let r = joint_good on_within_limits (evaluate ws (take j xs) x) (evaluate ws (take j xs) y) a h in
      let b : Some x = within j ih x r.0 r.2 in
      let c : Some y = within j ih y r.1 r.3 in
      let s = on_stream b.0 c.0 in
      (s.0, Stands.on b.1 c.1 s.1)
  within j ih (clock i) a h =
      let r = lookup_take xs j i a (listed_good (get_elem? (take j xs) i) a h) in
      ih i r.0 (omega (arith, lookup_below xs i a r.1, w.many))

  -- for the first f clocks
  first_some : (f i : ℕ) → i < f → i < length clocks → Some (clock i)
  first_some zero i h b = absurd (omega arith)
  first_some (suc f) i h b =
      let c = lookup_there clocks i b in
      let r = w.each i c.0 c.1 in
      let p : Some c.0.expr = within i (λ j q k. first_some f j (omega arith) k) c.0.expr r.0 r.2 in
      (p.0, Stands.clock c.1 p.1)

  pub clock_some : (i : ℕ) → i < length clocks → (s : Stream) × Stands words clocks (clock i) s
  clock_some i b = first_some (suc i) i (omega arith) b

  pub stands_some : (j : ℕ) (x : Expr) (a : Node) → evaluate ws (take j xs) x ≡ good a → (s : Stream) × Stands words clocks x s
  stands_some j x a h = within j (λ i q b. clock_some i b) x a h
