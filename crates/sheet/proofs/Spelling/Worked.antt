-- The table of clocks that were read holds each clock's node, worked out from those before it; and such clocks and nodes are rows. Assumes nothing.
use mathlib.Core.Path.{◌≡◌, refl, sym, ap, ap₂, ◌∙◌}
use mathlib.Core.List.{List, [], ◌∷◌, ◌++◌, map}
use mathlib.Core.Option.{some}
use Prim.Native.Nat.{ℕ, zero, suc}
use native.Mathlib.Omega.{arith}
use lib.ListN.{length, take, get_elem?, length-map}
use Rattle.envelope.specs.declared.Node.{Node}
use Rattle.expression.specs.Expression.{Word, Clock}
use Rattle.expression.specs.Evaluate.{Worth.good, evaluate, word_nodes, Worked}
use Rattle.expression.proofs.Lookup.{none_some, lookup_map}
use Rattle.sheet.specs.Sheet.{Every, Each, ClockRow}
use Rattle.sheet.specs.SheetRead.{ClockNode, clock_of, node_of_clock}
use Rattle.sheet.proofs.Spelling.Rows.{every_at, each_at, at_each}
use Rattle.sheet.proofs.Spelling.Clocks.{ClockMade}

module _ {A B : Type 0} (f : A → B) where
  pub map_take : (xs : List A) (i : ℕ) → map f (take i xs) ≡ take i (map f xs)
  map_take xs zero = refl
  map_take [] (suc i) = refl
  map_take (x ∷ xs) (suc i) = ap {B = List B} (λ r. f x ∷ r) (map_take xs i)

  lookup_mapped : (xs : List A) (i : ℕ) (x : A) → get_elem? xs i ≡ some x → get_elem? (map f xs) i ≡ some (f x)
  lookup_mapped [] i x h = none_some h
  lookup_mapped (y ∷ xs) zero x h = cc
  lookup_mapped (y ∷ xs) (suc i) x h = lookup_mapped xs i x h

-- ---- what was read
module _ (words : List Word) where
  abbrev Ok : List ClockNode → ClockNode → Type 0
  Ok = ClockMade (word_nodes words)

  pub rows_worked : (zs : List ClockNode) → Each Ok [] zs → Worked words (map clock_of zs) (map node_of_clock zs)
  rows_worked zs h =
      record {
        each = λ i c p.
            let r = lookup_map clock_of zs i c p in
            let t : ClockMade (word_nodes words) (take i zs) r.0 = each_at Ok [] zs i r.0 h r.1 in (
              r.0.node,
              lookup_mapped node_of_clock zs i r.0 r.1,
              ap₂ (λ (xs : List Node) (k : Clock). evaluate (word_nodes words) xs k.expr) (sym (map_take node_of_clock zs i)) r.2 ∙ t.value,
            );
        many = length-map zs node_of_clock ∙ sym (length-map zs clock_of);
      }

  pub rows_clocks : (zs xs : List ClockNode) → Each Ok xs zs → Every ClockRow (map clock_of zs)
  rows_clocks [] xs h = tt
  rows_clocks (z ∷ zs) xs h = (h.0.legal, rows_clocks zs (xs ++ (z ∷ [])) h.1)

-- ---- clocks with their nodes, as rows
abbrev pub together : List Clock → List Node → List ClockNode
together [] xs = []
together (c ∷ cs) [] = []
together (c ∷ cs) (x ∷ xs) = record { clock = c; node = x } ∷ together cs xs

pub together_clocks : (cs : List Clock) (xs : List Node) → length xs ≡ length cs → map clock_of (together cs xs) ≡ cs
together_clocks [] xs h = refl
together_clocks (c ∷ cs) [] h = absurd (omega arith)
together_clocks (c ∷ cs) (x ∷ xs) h = ap {B = List Clock} (λ r. c ∷ r) (together_clocks cs xs (omega arith))

pub together_nodes : (cs : List Clock) (xs : List Node) → length xs ≡ length cs → map node_of_clock (together cs xs) ≡ xs
together_nodes [] [] h = refl
together_nodes [] (x ∷ xs) h = absurd (omega arith)
together_nodes (c ∷ cs) [] h = absurd (omega arith)
together_nodes (c ∷ cs) (x ∷ xs) h = ap {B = List Node} (λ r. x ∷ r) (together_nodes cs xs (omega arith))

pub worked_rows : (words : List Word) (cs : List Clock) (xs : List Node) → Worked words cs xs → Every ClockRow cs → Each (ClockMade (word_nodes words)) [] (together cs xs)
worked_rows words cs xs w l = at_each (ClockMade (word_nodes words)) [] zs each
  where
    zs : List ClockNode
    zs = together cs xs

    each : (i : ℕ) (z : ClockNode) → get_elem? zs i ≡ some z → ClockMade (word_nodes words) (take i zs) z
    each i z h =
        let p : get_elem? cs i ≡ some z.clock = rw (together_clocks cs xs w.many) at (lookup_mapped clock_of zs i z h) in
        let q : get_elem? xs i ≡ some z.node = rw (together_nodes cs xs w.many) at (lookup_mapped node_of_clock zs i z h) in
        let r = w.each i z.clock p in
        let e : r.0 ≡ z.node = cc (r.1, q) in
        let earlier : map node_of_clock (take i zs) ≡ take i xs = map_take node_of_clock zs i ∙ ap (take i) (together_nodes cs xs w.many) in
        record {
          legal = every_at ClockRow cs i z.clock l p;
          value = ap (λ (ys : List Node). evaluate (word_nodes words) ys z.clock.expr) earlier ∙ r.2 ∙ ap good e;
        }
