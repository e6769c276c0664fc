-- Clocks with the chosen ones marked closed: what that leaves as it was, and how two choices make one. Assumes nothing.
use mathlib.Core.Path.{◌≡◌, refl, sym, ap, ap₂, ◌∙◌}
use mathlib.Core.Bool.{Bool, true, false, ◌||◌}
use mathlib.Core.List.{List, [], ◌∷◌, ◌++◌}
use mathlib.Core.Option.{some}
use Prim.Native.Nat.{ℕ, zero, suc, ◌+◌, ◌<◌}
use native.Mathlib.Omega.{arith}
use Rattle.std.proofs.lemmas.List.{set-append_right}
use lib.Dec.{eqb, eqb-zero-suc, eqb-suc-zero, eqb-suc-suc}
use lib.ListN.{length, take, set, get_elem?, length-append}
use Rattle.envelope.specs.declared.Node.{Node}
use Rattle.expression.specs.Expression.{Word, Clock, spell_clock}
use Rattle.expression.specs.Evaluate.{evaluate, word_nodes, Worked}
use Rattle.expression.proofs.Lookup.{none_some}
use Rattle.sheet.specs.Sheet.{rows, Every, ClockRow}
use Rattle.register.specs.Inner.Marking.{closed_clock, marked, mark_clocks}
use Rattle.register.specs.Promise.{only}

-- ---- one clock
marked_row : (b : Bool) (k : Clock) → ClockRow k → ClockRow (marked b k)
marked_row true k h = record { state_bit = omega arith; shallow = h.shallow }
marked_row false k h = h

marked_expr : (b : Bool) (k : Clock) → (marked b k).expr ≡ k.expr
marked_expr true k = refl
marked_expr false k = refl

marked_length : (b : Bool) (k : Clock) → length (spell_clock (marked b k)) ≡ length (spell_clock k)
marked_length true k = refl
marked_length false k = refl

marked_both : (b a : Bool) (k : Clock) → marked a (marked b k) ≡ marked (b || a) k
marked_both true true k = refl
marked_both true false k = refl
marked_both false a k = refl

-- ---- each clock of a list
pub marks_length : (t : ℕ → Bool) (ks : List Clock) → length (mark_clocks t ks) ≡ length ks
unfolding mark_clocks
marks_length t [] = refl
marks_length t (k ∷ ks) = ap suc (marks_length (λ i. t (suc i)) ks)

pub mark_at : (t : ℕ → Bool) (ks : List Clock) (i : ℕ) (k : Clock) → get_elem? ks i ≡ some k → get_elem? (mark_clocks t ks) i ≡ some (marked (t i) k)
unfolding mark_clocks
mark_at t [] i k h = none_some h
mark_at t (x ∷ ks) zero k h =
    let e : x ≡ k = cc in
    ap (λ (y : Clock). some (marked (t 0) y)) e
mark_at t (x ∷ ks) (suc i) k h = mark_at (λ i. t (suc i)) ks i k h

-- and the clock that it was
unmark_at : (t : ℕ → Bool) (ks : List Clock) (i : ℕ) (k : Clock) → get_elem? (mark_clocks t ks) i ≡ some k → (x : Clock) × (get_elem? ks i ≡ some x) × (k.expr ≡ x.expr)
unfolding mark_clocks
unmark_at t [] i k h = none_some h
unmark_at t (x ∷ ks) zero k h =
    let e : marked (t 0) x ≡ k = cc in
    (x, refl, ap (λ (y : Clock). y.expr) (sym e) ∙ marked_expr (t 0) x)
unmark_at t (x ∷ ks) (suc i) k h = unmark_at (λ i. t (suc i)) ks i k h

pub unmarked_at : (t : ℕ → Bool) (ks : List Clock) (i : ℕ) → t i ≡ false → get_elem? (mark_clocks t ks) i ≡ get_elem? ks i
unfolding mark_clocks
unmarked_at t [] i h = refl
unmarked_at t (k ∷ ks) zero h = rw h
unmarked_at t (k ∷ ks) (suc i) h = unmarked_at (λ i. t (suc i)) ks i h

-- where marking changes no clock, the list is as it was
pub marks_kept : (t : ℕ → Bool) (ks : List Clock) → ((i : ℕ) (k : Clock) → get_elem? ks i ≡ some k → marked (t i) k ≡ k) → mark_clocks t ks ≡ ks
unfolding mark_clocks
marks_kept t [] h = refl
marks_kept t (k ∷ ks) h = ap₂ {C = List Clock} (λ x xs. x ∷ xs) (h 0 k refl) (marks_kept (λ i. t (suc i)) ks λ i x e. h (suc i) x e)

pub marks_same : (t u : ℕ → Bool) (ks : List Clock) → ((i : ℕ) → t i ≡ u i) → mark_clocks t ks ≡ mark_clocks u ks
unfolding mark_clocks
marks_same t u [] h = refl
marks_same t u (k ∷ ks) h = ap₂ {C = List Clock} (λ b xs. marked b k ∷ xs) (h 0) (marks_same (λ i. t (suc i)) (λ i. u (suc i)) ks λ i. h (suc i))

pub marks_both : (t u : ℕ → Bool) (ks : List Clock) → mark_clocks t (mark_clocks u ks) ≡ mark_clocks (λ i. u i || t i) ks
unfolding mark_clocks
marks_both t u [] = refl
marks_both t u (k ∷ ks) = ap₂ {C = List Clock} (λ x xs. x ∷ xs) (marked_both (u 0) (t 0) k) (marks_both (λ i. t (suc i)) (λ i. u (suc i)) ks)

-- ---- what a legal sheet keeps to
pub marks_rows : (t : ℕ → Bool) (ks : List Clock) → Every ClockRow ks → Every ClockRow (mark_clocks t ks)
unfolding mark_clocks
marks_rows t [] h = tt
marks_rows t (k ∷ ks) h = (marked_row (t 0) k h.0, marks_rows (λ i. t (suc i)) ks h.1)

-- nodes are worked out from expressions alone
pub marks_worked : (t : ℕ → Bool) (words : List Word) (ks : List Clock) (xs : List Node) → Worked words ks xs → Worked words (mark_clocks t ks) xs
marks_worked t words ks xs w =
    record {
      each = λ i k h.
          let r = unmark_at t ks i k h in
          let q = w.each i r.0 r.1 in
          (q.0, q.1, ap (evaluate (word_nodes words) (take i xs)) r.2 ∙ q.2);
      many = w.many ∙ sym (marks_length t ks);
    }

-- ---- spelled
pub marks_spelled : (t : ℕ → Bool) (ks : List Clock) → length (rows spell_clock (mark_clocks t ks)) ≡ length (rows spell_clock ks)
unfolding mark_clocks rows
marks_spelled t [] = refl
marks_spelled t (k ∷ ks) =
    let x : Clock = marked (t 0) k in
    let xs : List ℕ = rows spell_clock (mark_clocks (λ i. t (suc i)) ks) in
    omega (arith, length-append (spell_clock x) xs, length-append (spell_clock k) (rows spell_clock ks), marked_length (t 0) k, marks_spelled (λ i. t (suc i)) ks)

-- a byte of the second of two texts
pub set_more : (xs ys : List ℕ) (j a : ℕ) → set (xs ++ ys) (length xs + j) a ≡ xs ++ set ys j a
set_more xs ys j a = set-append_right xs ys (length xs) (length xs + j) a refl (omega arith) ∙ ap (λ (i : ℕ). xs ++ set ys i a) (omega arith)

-- one clock closed: the first byte of its row is turned
pub only_spelled : (ks : List Clock) (i : ℕ) → i < length ks → rows spell_clock (mark_clocks (only i) ks) ≡ set (rows spell_clock ks) (length (rows spell_clock (take i ks))) 1
unfolding mark_clocks rows
only_spelled [] i h = absurd (omega arith)
only_spelled (k ∷ ks) zero h = ap (λ (xs : List Clock). spell_clock (closed_clock k) ++ rows spell_clock xs) (marks_kept (λ j. eqb 0 (suc j)) ks λ j x e. rw (eqb-zero-suc j))
only_spelled (k ∷ ks) (suc i) h =
    let here : marked (eqb (suc i) 0) k ≡ k = rw (eqb-suc-zero i) in
    let later : mark_clocks (λ j. eqb (suc i) (suc j)) ks ≡ mark_clocks (only i) ks = marks_same (λ j. eqb (suc i) (suc j)) (only i) ks (eqb-suc-suc i) in
    let m : ℕ = length (rows spell_clock (take i ks)) in
    let e : length (spell_clock k) + m ≡ length (spell_clock k ++ rows spell_clock (take i ks)) = omega (arith, length-append (spell_clock k) (rows spell_clock (take i ks))) in
    ap₂ {C = List ℕ} (λ (x : Clock) (xs : List Clock). spell_clock x ++ rows spell_clock xs) here later
    ∙ ap (λ (r : List ℕ). spell_clock k ++ r) (only_spelled ks i (omega arith))
    ∙ sym (set_more (spell_clock k) (rows spell_clock ks) m 1)
    ∙ ap (λ (n : ℕ). set (spell_clock k ++ rows spell_clock ks) n 1) e

pub take_spelled : (ks : List Clock) (i : ℕ) → i < length ks → length (rows spell_clock (take i ks)) < length (rows spell_clock ks)
unfolding rows
take_spelled [] i h = absurd (omega arith)
take_spelled (k ∷ ks) zero h = omega (arith, length-append (spell_clock k) (rows spell_clock ks))
take_spelled (k ∷ ks) (suc i) h = omega (arith, take_spelled ks i (omega arith), length-append (spell_clock k) (rows spell_clock ks), length-append (spell_clock k) (rows spell_clock (take i ks)))
