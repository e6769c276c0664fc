-- What an expression can stand for lies in its envelope; and every envelope of a table that is worked out is taken. Assumes nothing.
use mathlib.Core.Path.{◌≡◌, sym, ap, ◌∙◌, subst}
use mathlib.Core.List.{List}
use mathlib.Core.Option.{some}
use Prim.Native.Nat.{ℕ, zero, suc, ◌*◌, ◌<◌}
use native.Mathlib.Nat.{mul-pos}
use native.Mathlib.Omega.{arith}
use lib.ListN.{length, take, get_elem?}
use Rattle.envelope.specs.declared.Envelope.{Envelope}
use Rattle.envelope.specs.declared.Node.{Node}
use Rattle.envelope.specs.Stream.{Stream, Lies}
use Rattle.envelope.specs.Envelope.{Taken}
use Rattle.envelope.specs.Word.{word_of}
use Rattle.envelope.specs.Made.{on_within_limits}
use Rattle.envelope.proofs.Streams.{has_lies}
use Rattle.envelope.proofs.Normal.{normal_keeps}
use Rattle.envelope.proofs.Not.{not_keeps}
use Rattle.envelope.proofs.On.{on_keeps}
use Rattle.envelope.proofs.Word.{word_keeps}
use Rattle.envelope.proofs.Taken.{word_taken}
use Rattle.expression.specs.Expression.{Word, Expr, Clock}
use Rattle.expression.specs.Stands.{Stands, Stands.word, Stands.declared, Stands.negated, Stands.on, Stands.clock}
use Rattle.expression.specs.Evaluate.{Worth.good, evaluate, word_node, word_nodes, Worked}
use Rattle.expression.specs.Inner.Nodes.{AllTaken}
use Rattle.expression.specs.Promise.{AllLegal}
use Rattle.expression.proofs.Lookup.{lookup_below, lookup_there, lookup_take, lookup_map}
use Rattle.expression.proofs.Evaluated.{Result, onward_good, joint_good, listed_good, declared_result, negated_result, on_result, evaluate_taken}

-- a stream lies in what a rule made
made : (s : Stream) (e : Envelope) (a : Node) → Result e a → Lies s e → Lies s a.envelope
made s e a r l = subst (λ (x : Node). Lies s x.envelope) (sym r.same) l

module _ (words : List Word) (clocks : List Clock) (xs : List Node) (w : Worked words clocks xs) (legal : AllLegal words) where
  abbrev ws : List Node
  ws = word_nodes words

  -- ---- every envelope is taken
  pub words_taken : AllTaken (word_nodes words)
  words_taken i a h =
      let r = lookup_map word_node words i a h in
      subst (λ (x : Node). Taken x.envelope) (sym r.2) (word_taken r.0.prefix r.0.period (legal i r.0 r.1))

  -- of the first f clocks
  first_taken : (f i : ℕ) → i < f → (a : Node) → get_elem? xs i ≡ some a → Taken a.envelope
  first_taken zero i h a p = absurd (omega arith)
  first_taken (suc f) i h a p =
      let b : i < length clocks = omega (arith, lookup_below xs i a p, w.many) in
      let c = lookup_there clocks i b in
      let r = w.each i c.0 c.1 in
      let z : r.0 ≡ a = cc (r.1, p) in
      let earlier : AllTaken (take i xs) = λ j d q. let t = lookup_take xs i j d q in first_taken f j (omega (arith, t.0)) d t.1 in
      subst (λ (x : Node). Taken x.envelope) z (evaluate_taken ws (take i xs) words_taken earlier c.0.expr r.0 r.2)

  pub clocks_taken : AllTaken xs
  clocks_taken i a h = first_taken (suc i) i (omega arith) a h

  pub earlier_taken : (j : ℕ) → AllTaken (take j xs)
  earlier_taken j i a h = clocks_taken i a (lookup_take xs j i a h).1

  -- what an expression over the words and the first j clocks gives
  pub part_taken : (j : ℕ) (x : Expr) (a : Node) → evaluate ws (take j xs) x ≡ good a → Taken a.envelope
  part_taken j x a h = evaluate_taken ws (take j xs) words_taken (earlier_taken j) x a h

  -- ---- what it can stand for lies in its envelope
  pub sound : {x : Expr} {s : Stream} → Stands words clocks x s → (j : ℕ) (a : Node) → evaluate ws (take j xs) x ≡ good a → Lies s a.envelope
  unfolding evaluate
  sound (word {i = i} {w = u} {s = s} p b) j a h =
      let r = lookup_map word_node words i a (listed_good (get_elem? ws i) a h) in
      let z : r.0 ≡ u = cc (r.1, p) in
      let q : a ≡ word_node u = r.2 ∙ ap word_node z in
      let l : Lies s (word_of u.prefix u.period) = has_lies s _ _ b (word_keeps u.prefix u.period (legal i u p).a_one) in
      subst (λ (x : Node). Lies s x.envelope) (sym q) l
  sound (declared {k = k} {K = K} {l = l} {n = n} {s = s} p) j a h =
      let r = declared_result k K l n a h in
      made s _ a r.1 (normal_keeps k K l n r.0.n_least s.bit p)
  sound (negated {x = x} {a = b} {s = s} p q) j a h =
      let r = onward_good (evaluate ws (take j xs) x) _ a h in
      let t = negated_result r.0 a (part_taken j x r.0 r.1) r.2 in
      made s _ a t.1 (has_lies s _ _ q (not_keeps b r.0.envelope t.0 (sound p j r.0 r.1)))
  sound (on {x = x} {y = y} {a = b} {b = c} {s = s} p q o) j a h =
      let r = joint_good on_within_limits (evaluate ws (take j xs) x) (evaluate ws (take j xs) y) a h in
      let e : Envelope = r.0.envelope in
      let f : Envelope = r.1.envelope in
      let t : Taken e = part_taken j x r.0 r.2 in
      let t' : Taken f = part_taken j y r.1 r.3 in
      let m : 0 < e.n * f.n = mul-pos t.n_least t'.n_least in
      made s _ a (on_result r.0 r.1 a t t' r.4)
      (has_lies s _ _ o (on_keeps b.bit c.bit e f m (sound p j r.0 r.2) (sound q j r.1 r.3)))
  sound (clock {i = i} {c = c} {s = s} p q) j a h =
      let r = w.each i c p in
      let t = lookup_take xs j i a (listed_good (get_elem? (take j xs) i) a h) in
      let z : r.0 ≡ a = cc (r.1, t.1) in
      subst (λ (x : Node). Lies s x.envelope) z (sound q i r.0 r.2)

  -- and a clock's in the clock's
  pub clock_sound : {i : ℕ} {s : Stream} → Stands words clocks (Expr.clock i) s → (a : Node) → get_elem? xs i ≡ some a → Lies s a.envelope
  clock_sound (clock {i = i} {c = c} {s = s} p q) a h =
      let r = w.each i c p in
      let z : r.0 ≡ a = cc (r.1, h) in
      subst (λ (x : Node). Lies s x.envelope) z (sound q i r.0 r.2)
