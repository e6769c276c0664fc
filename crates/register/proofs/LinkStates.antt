-- Links and rooms: what a link's state says, which links stay open after clocks are closed, and what stays as it was. Assumes nothing.
use mathlib.Core.Path.{◌≡◌, refl, sym, ap, ap₂, ◌∙◌}
use mathlib.Core.Logic.{◌⊎◌, inl, inr, ◌≢◌}
use mathlib.Core.Bool.{Bool, true, false, cond, not, ◌&&◌, ◌||◌, or-true, or-false}
use mathlib.Core.List.{List, [], ◌∷◌, map}
use mathlib.Core.Option.{Option, none, some}
use Prim.Native.Nat.{ℕ, ◌+◌, ◌<◌}
use native.Mathlib.Nat.{zero-add}
use native.Mathlib.Omega.{arith}
use lib.Dec.{eqb}
use lib.ListN.{length, get_elem?}
use borrow.Author.Tests.{eqb-true, eq-eqb}
use Rattle.link.specs.declared.Row.{Row}
use Rattle.link.specs.Link.{size_in, open_size_of}
use Rattle.expression.specs.Expression.{Clock}
use Rattle.expression.proofs.Lookup.{lookup_there}
use Rattle.sheet.specs.Sheet.{Link, Every, LinkRow, Legal}
use Rattle.sheet.specs.SheetRead.{SheetRead}
use Rattle.sizing.specs.Rooms.{state_in, verdict_in, row_of, rows_of, total, size_of_row, open_room, whole_room}
use Rattle.sheet.proofs.Spelling.Rows.{each_every}
use Rattle.register.specs.Inner.Marking.{marked, close_in}
use Rattle.register.specs.OpenLinks.{with_if, those, is_open, untouched, LinkStates}
use Rattle.register.specs.Table.{HasMark}
use Rattle.register.specs.Promise.{Alters}
use Rattle.register.proofs.Marks.{mark_at, unmarked_at}

-- ---- a link's state, from whether its ends are marked
abbrev either : Bool → Bool → ℕ
either p q = cond p 1 (cond q 1 0)

closed_right : (p : Bool) → either p true ≡ 1
closed_right true = refl
closed_right false = refl

else_zero : (p q : Bool) → either p q ≢ 1 → either p q ≡ 0
else_zero true q h = absurd (h refl)
else_zero false true h = absurd (h refl)
else_zero false false h = refl

closed_from : (p q : Bool) → either p q ≡ 1 → (p ≡ true) ⊎ (q ≡ true)
closed_from true q h = inl refl
closed_from false true h = inr refl
closed_from false false h = absurd (omega arith)

abbrev is_marked : SheetRead → ℕ → Bool
is_marked o i = eqb (state_in (get_elem? o.sheet.clocks i)) 1

-- a mark of 1 is that of a clock
marked_closed : (o : SheetRead) (i : ℕ) → is_marked o i ≡ true → HasMark o i 1
marked_closed o i h = go (get_elem? o.sheet.clocks i) refl (eqb-true _ 1 h)
  where
    go : (r : Option Clock) → get_elem? o.sheet.clocks i ≡ r → state_in r ≡ 1 → HasMark o i 1
    go none e p = absurd (omega arith)
    go (some k) e p = (k, e, p)

closed_marked : (o : SheetRead) (i : ℕ) → HasMark o i 1 → is_marked o i ≡ true
closed_marked o i h = eq-eqb _ 1 (ap state_in h.1 ∙ h.2)

-- ---- the row of a link, by its state
abbrev row_at : SheetRead → Link → ℕ → Row
row_at o l state = record { producer = l.producer; consumer = l.consumer; state = state; verdict = verdict_in o.table l }

-- the open room is the sum over open links: with one more
one_more : (o : SheetRead) (l : Link) (p q : Bool) (rest : List Row) (n : ℕ) → n ≡ total (map size_of_row rest)
    → open_size_of (row_at o l (either p q)) + n ≡ total (map size_of_row (with_if (is_open (row_at o l (either p q))) (row_at o l (either p q)) rest))
unfolding total
one_more o l true q rest n h = zero-add n ∙ h
one_more o l false true rest n h = zero-add n ∙ h
one_more o l false false rest n h = ap (λ (m : ℕ). size_in (verdict_in o.table l) + m) h

open_sum : (o : SheetRead) (ls : List Link) → total (map open_size_of (map (row_of o) ls)) ≡ total (map size_of_row (those is_open (map (row_of o) ls)))
unfolding total those
open_sum o [] = refl
open_sum o (l ∷ ls) = one_more o l (is_marked o l.producer) (is_marked o l.consumer) (those is_open (map (row_of o) ls)) _ (open_sum o ls)

pub link_states : (o : SheetRead) → LinkStates o
unfolding open_room
link_states o =
    record {
      closed_by_an_end = by;
      only_by_an_end = λ l h. from l (closed_from (is_marked o l.producer) (is_marked o l.consumer) h);
      else_open = λ l h. else_zero (is_marked o l.producer) (is_marked o l.consumer) h;
      open_room_is = open_sum o o.sheet.links;
    }
  where
    by : (l : Link) → HasMark o l.producer 1 ⊎ HasMark o l.consumer 1 → (row_of o l).state ≡ 1
    by l (inl h) = rw (closed_marked o l.producer h)
    by l (inr h) = rw (closed_marked o l.consumer h) (closed_right (is_marked o l.producer))

    from : (l : Link) → (is_marked o l.producer ≡ true) ⊎ (is_marked o l.consumer ≡ true) → HasMark o l.producer 1 ⊎ HasMark o l.consumer 1
    from l (inl h) = inl (marked_closed o l.producer h)
    from l (inr h) = inr (marked_closed o l.consumer h)

-- ---- which links are still open
those_if : {A : Type 0} (f : A → Bool) (t : Bool) (x : A) (xs : List A) → those f (with_if t x xs) ≡ with_if (t && f x) x (those f xs)
unfolding those
those_if f true x xs = refl
those_if f false x xs = refl

-- a link between ends that were marked or not (p, q) and are now chosen or not (a, b)
one_open : (o : SheetRead) (l : Link) (p q a b : Bool) (rest : List Row)
    → with_if (is_open (row_at o l (either (p || a) (q || b)))) (row_at o l (either (p || a) (q || b))) rest
    ≡ with_if (is_open (row_at o l (either p q)) && not (a || b)) (row_at o l (either p q)) rest
one_open o l true q a b rest = refl
one_open o l false true true b rest = refl
one_open o l false true false b rest = refl
one_open o l false false true b rest = refl
one_open o l false false false true rest = refl
one_open o l false false false false rest = refl

module _ (t : ℕ → Bool) (o : SheetRead) where
  -- a clock that is there is marked after if it was or is chosen
  marked_after : (i : ℕ) → i < length o.sheet.clocks → is_marked (close_in t o) i ≡ (is_marked o i || t i)
  marked_after i h =
      let k = lookup_there o.sheet.clocks i h in
      rw (mark_at t o.sheet.clocks i k.0 k.1, k.1) (go k.0 (t i))
    where
      go : (k : Clock) (b : Bool) → eqb (marked b k).state 1 ≡ (eqb k.state 1 || b)
      go k true = sym (or-true (eqb k.state 1))
      go k false = sym (or-false (eqb k.state 1))

  open_after : (ls : List Link) → Every (LinkRow (length o.sheet.clocks)) ls
      → those is_open (map (row_of (close_in t o)) ls) ≡ those (untouched t) (those is_open (map (row_of o) ls))
  unfolding those
  open_after [] h = refl
  open_after (l ∷ ls) h =
      let p : Bool = is_marked o l.producer in
      let q : Bool = is_marked o l.consumer in
      let a : Bool = t l.producer in
      let b : Bool = t l.consumer in
      let row : Bool → Bool → Row = (λ x y. row_at o l (either x y)) in
      let rest : List Row = those is_open (map (row_of (close_in t o)) ls) in
      ap₂ {C = List Row} (λ (x y : Bool). with_if (is_open (row x y)) (row x y) rest) (marked_after l.producer h.0.producer_there) (marked_after l.consumer h.0.consumer_there)
      ∙ one_open o l p q a b rest
      ∙ ap (with_if (is_open (row p q) && not (a || b)) (row p q)) (open_after ls h.1)
      ∙ sym (those_if (untouched t) (is_open (row p q)) (row p q) (those is_open (map (row_of o) ls)))

  -- what a row holds besides its state
  rows_kept : {B : Type 0} (f : Row → B) → ((l : Link) → f (row_of (close_in t o) l) ≡ f (row_of o l)) → (ls : List Link) → map f (map (row_of (close_in t o)) ls) ≡ map f (map (row_of o) ls)
  rows_kept f h [] = refl
  rows_kept {B} f h (l ∷ ls) = ap₂ {C = List B} (λ x xs. x ∷ xs) (h l) (rows_kept f h ls)

  pub alters : Alters t o (close_in t o)
  unfolding whole_room
  alters =
      record {
        marks = λ i k e c. mark_at t o.sheet.clocks i k e ∙ rw c;
        keeps_marks = λ i c. unmarked_at t o.sheet.clocks i c;
        keeps_words = refl;
        keeps_links = refl;
        keeps_envelopes = refl;
        keeps_verdicts = λ l. refl;
        keeps_whole_room = ap total (rows_kept size_of_row (λ l. refl) o.sheet.links);
      }

  pub still_open : Legal o.sheet → those is_open (rows_of (close_in t o)) ≡ those (untouched t) (those is_open (rows_of o))
  still_open legal = open_after o.sheet.links (each_every (LinkRow (length o.sheet.clocks)) [] o.sheet.links legal.links_legal)
