-- The rows of links between clocks: their sizes are small, and what the code reads of the tables makes them.
-- Assumes nothing.
use mathlib.Core.Path.{◌≡◌, refl, sym, ap₂, ◌∙◌}
use mathlib.Core.Bool.{Bool, true, false, cond}
use mathlib.Core.List.{List}
use mathlib.Core.Option.{Option, none, some}
use Prim.Native.Nat.{ℕ, ◌-◌, ◌≤◌, ◌<◌}
use native.Mathlib.Omega.{arith}
use lib.IntN.{ℤ, pos, negsuc, nat_abs, ◌-ℤ◌, ◌*ℤ◌}
use lib.Signed.{◌≤ℤ◌}
use lib.Dec.{eqb}
use lib.ListN.{get_or, get_elem?}
use Rattle.whole.specs.Rounding.{ceil_div}
use Rattle.whole.proofs.Bridge.{up, orders, up_mul, down_mul, up_diff_le}
use Rattle.whole.proofs.Rounding.{ceil_least}
use Rattle.envelope.specs.declared.Envelope.{Envelope}
use Rattle.envelope.specs.declared.Node.{Node}
use Rattle.envelope.specs.Envelope.{Taken}
use Rattle.envelope.proofs.Held.{K_up, k_down}
use Rattle.link.specs.declared.Verdict.{Verdict}
use Rattle.link.specs.declared.Verdict.TheVariants.{Accepted, Rates, Early}
use Rattle.link.specs.declared.Row.{Row}
use Rattle.link.specs.Link.{size_of, verdict_of, verdict_number, size_in, state_of, open_size_of, Passes}
use Rattle.link.proofs.Links.{size_least, accepted_is}
use Rattle.expression.specs.Inner.Nodes.{AllTaken}
use Rattle.sheet.specs.Sheet.{Link}
use Rattle.sizing.specs.Rooms.{verdict_between, verdict_in, size_of_row}
use Rattle.sizing.specs.Inner.Rows.{row_at}

-- ---- sizes are small
size_small : (e f : Envelope) → Taken e → Taken f → Passes e f → nat_abs (size_of e f) ≤ 3000000000
unfolding size_of
size_small e f s t p =
    let d : ℤ = f.K -ℤ pos (e.n - 1) in
    let x : ℤ = d -ℤ e.k in
    let xu : up x ≤ 3000000000 = omega (arith, up_diff_le d e.k, up_diff_le f.K (pos (e.n - 1)), K_up f t.limits, k_down e s.limits) in
    let l : 0 < e.l = omega (arith, s.n_least, s.n_most) in
    let high : ceil_div x e.l ≤ℤ pos 3000000000 = ceil_least x (pos 3000000000) e.l l (wide x e.l l xu) in
    small (ceil_div x e.l) (size_least e f s t p) high
  where
    wide : (x : ℤ) (l : ℕ) → 0 < l → up x ≤ 3000000000 → x ≤ℤ (pos 3000000000 *ℤ pos l)
    wide x l h k = omega (arith, orders, up_mul (pos 3000000000) l, down_mul (pos 3000000000) l)

    small : (z : ℤ) → pos 0 ≤ℤ z → z ≤ℤ pos 3000000000 → nat_abs z ≤ 3000000000
    small (pos n) p q = omega (arith, orders)
    small (negsuc n) p q = absurd (omega (arith, orders))

pub verdict_small : (e f : Envelope) → Taken e → Taken f → size_in (verdict_of e f) ≤ 3000000000
verdict_small e f s t = go (verdict_of e f) refl
  where
    go : (v : Verdict) → verdict_of e f ≡ v → size_in v ≤ 3000000000
    go (Accepted n) h =
        let r = accepted_is e f n h in
        omega (arith, r.1, size_small e f s t r.0)
    go Rates h = omega arith
    go Early h = omega arith

pub row_small : (xs : List Node) → AllTaken xs → (l : Link) → size_in (verdict_in xs l) ≤ 3000000000
row_small xs t l = go (get_elem? xs l.producer) refl (get_elem? xs l.consumer) refl
  where
    go : (p : Option Node) → get_elem? xs l.producer ≡ p → (q : Option Node) → get_elem? xs l.consumer ≡ q → size_in (verdict_between p q) ≤ 3000000000
    go none e q f = omega arith
    go (some x) e none f = omega arith
    go (some x) e (some y) f = verdict_small x.envelope y.envelope (t l.producer x e) (t l.consumer y f)

-- an open link adds no more than its size
pub open_most : (r : Row) → open_size_of r ≤ size_of_row r
open_most r = go (eqb r.state 1)
  where
    go : (t : Bool) → cond t 0 (size_in r.verdict) ≤ size_in r.verdict
    go true = omega arith
    go false = omega arith

pub number_small : (v : Verdict) → verdict_number v ≤ 2
number_small (Accepted n) = omega arith
number_small Rates = omega arith
number_small Early = omega arith

-- ---- a row, from the entries of the table
pub row_is :
    (t : List Node) (ss : List ℕ) (l : Link) (x y : Node) (v : Verdict) (state : ℕ) →
    get_elem? t l.producer ≡ some x →
    get_elem? t l.consumer ≡ some y →
    v ≡ verdict_of x.envelope y.envelope →
    state ≡ state_of (get_or ss l.producer 0) (get_or ss l.consumer 0) →
    ◌≡◌ {A = Row} (record { producer = l.producer; consumer = l.consumer; state = state; verdict = v }) (row_at t ss l)
row_is t ss l x y v state p q r e =
    let w : v ≡ verdict_between (get_elem? t l.producer) (get_elem? t l.consumer) = r ∙ sym (ap₂ verdict_between p q) in
    λ k. record { producer = l.producer; consumer = l.consumer; state = e k; verdict = w k }
