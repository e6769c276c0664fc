-- Inside and the beginning of an endless stream are the same, where a 1 goes by two tests, `low` and `high`, and a 0 by `high` one place on.
-- Assumes nothing.
use Prim.Native.Nat.{ℕ, zero, suc, ◌+◌, ◌≤◌, ◌<◌}
use native.Mathlib.Nat.{le_refl}
use native.Mathlib.Omega.{arith}
use mathlib.Core.Path.{◌≡◌, refl, sym, ap, subst, ◌∙◌}
use mathlib.Core.Bool.{Bool, true, false, not, ◌&&◌, false≢true}
use mathlib.Core.List.{List, [], ◌∷◌}
use lib.ListN.{length}
use lib.Dec.{T}
use Rattle.std.proofs.lemmas.Bool.{not-true}
use Rattle.envelope.specs.Stream.{Stream, value, ones}
use Rattle.envelope.proofs.Tests.{is_true, to_t}
use Rattle.pattern.specs.Pattern.{after, may, Inside}
use Rattle.pattern.specs.Beginning.{part}

pub and_intro : (a b : Bool) → T a → T b → T (a && b)
and_intro true b s t = t
and_intro false b s t = absurd s

pub and_left : (a b : Bool) → T (a && b) → T a
and_left true b t = tt
and_left false b t = absurd t

pub and_right : (a b : Bool) → T (a && b) → T b
and_right true b t = t
and_right false b t = absurd t

-- the 1s after one more bit of a stream
ones_on : (s : ℕ → Bool) (t : ℕ) → ones s (suc t) ≡ after (ones s t) (value (s t))
unfolding ones
ones_on s t = go (s t)
  where
    go : (b : Bool) → ones s t + value b ≡ after (ones s t) (value b)
    go true = omega arith
    go false = omega arith

-- the least true index from t on, with a true at t + d
module _ (s : ℕ → Bool) where
  record Firstly (t : ℕ) : Type 0 where
    at : ℕ
    from : t ≤ at
    hit : s at ≡ true
    same : ones s at ≡ ones s t

  firstly : (d t m : ℕ) → m ≤ t + d → t ≤ m → s m ≡ true → Firstly t
  firstly zero t m h k e = record { at = m; from = k; hit = e; same = ap (ones s) (let q : m ≡ t = omega arith in q) }
  firstly (suc d) t m h k e = go (s t) refl (λ h k. firstly d (suc t) m h k e)
    where
      go : (b : Bool) → s t ≡ b → (m ≤ suc t + d → suc t ≤ m → Firstly (suc t)) → Firstly t
      go true es ih = record { at = t; from = le_refl t; hit = es; same = refl }
      go false es ih =
          let ne : (m ≡ t → ⊥) = λ q. false≢true (sym es ∙ ap s (sym q) ∙ e) in
          let r : Firstly (suc t) = ih (omega arith) (omega (arith, ne)) in
          record { at = r.at; from = (let f = r.from in omega arith); hit = r.hit; same = r.same ∙ ones_on s t ∙ rw es }

module _ (low high : ℕ → ℕ → Bool) where
  abbrev z : ℕ → ℕ → Bool
  z i j = high (suc i) j

  abbrev o : ℕ → ℕ → Bool
  o i j = low i j && high i j

  -- a stream that lies in the envelope, by the tests
  abbrev pub LiesBy : (ℕ → Bool) → Type 0
  LiesBy s = (i : ℕ) → s i ≡ true → T (o i (ones s i))

  pub record BeginsBy (p : List ℕ) : Type 0 where
    pub stream : Stream
    pub lies : LiesBy stream.bit
    pub begins : part stream.bit zero (length p) ≡ p

  -- ---- a beginning is inside
  module _ (sooner : (i h j : ℕ) → i ≤ h → T (high h j) → T (high i j)) where
    part_inside : (s : Stream) → LiesBy s.bit → (m i : ℕ) → Inside z o i (ones s.bit i) (part s.bit i m)
    part_inside s v zero i = tt
    part_inside s v (suc m) i = (go (b i) refl, subst (λ (j : ℕ). Inside z o (suc i) j (part b (suc i) m)) (ones_on b i) (part_inside s v m (suc i)))
      where
        b : ℕ → Bool
        b = s.bit

        go : (x : Bool) → b i ≡ x → T (may z o i (ones b i) (value (b i)))
        go true e = rw e (v i e)
        go false e =
            let w = s.endless (suc i) in
            let r : Firstly b (suc i) = firstly b w.0 (suc i) w.0 (omega arith) w.1 w.2 in
            let same : ones b r.at ≡ ones b i = r.same ∙ ones_on b i ∙ rw e in
            let up : T (high r.at (ones b i)) = subst (λ (j : ℕ). T (high r.at j)) same (and_right (low r.at (ones b r.at)) (high r.at (ones b r.at)) (v r.at r.hit)) in
            rw e (sooner (suc i) r.at (ones b i) r.from up)

    pub begins_inside : (p : List ℕ) → BeginsBy p → Inside z o 0 0 p
    unfolding ones
    begins_inside p b = subst (λ (q : List ℕ). Inside z o 0 0 q) b.begins (part_inside b.stream b.lies (length p) 0)

  -- ---- from a live place a step may be taken, and leads to a live place
  pub record Live (i j : ℕ) : Type 0 where
    pub live : T (high i j)

  pub live_zero : (i j : ℕ) → Live i j → z i j ≡ true → Live (suc i) j
  live_zero i j v e = record { live = to_t (z i j) e }

  module _
      (sloped : (i j : ℕ) → T (high i j) → T (high (suc i) (suc j)))
      (room : (i j : ℕ) → high (suc i) j ≡ false → T (low i j)) where
    pub live_one : (i j : ℕ) → Live i j → o i j ≡ true → Live (suc i) (suc j)
    live_one i j v e = record { live = sloped i j v.live }

    pub a_step : (i j : ℕ) → Live i j → z i j ≡ false → o i j ≡ true
    a_step i j v e = is_true (o i j) (and_intro (low i j) (high i j) (room i j e) v.live)

    -- ---- a pattern inside is a beginning: it goes on for ever by the smaller step that may be taken
    abbrev is_one : ℕ → Bool
    is_one zero = false
    is_one (suc b) = true

    abbrev rest : List ℕ → List ℕ
    rest [] = []
    rest (b ∷ r) = r

    -- what comes at place t, with c 1s behind and r of the pattern left
    abbrev out : ℕ → ℕ → List ℕ → Bool
    out t c [] = not (z t c)
    out t c (b ∷ r) = is_one b

    record Keeps (t c : ℕ) (r : List ℕ) : Type 0 where
      live : Live t c
      inside : Inside z o t c r

    out_one : (t c : ℕ) (r : List ℕ) → Keeps t c r → out t c r ≡ true → T (o t c)
    out_one t c [] k e = to_t (o t c) (a_step t c k.live (not-true (z t c) e))
    out_one t c (zero ∷ r) k e = absurd (false≢true e)
    out_one t c (suc zero ∷ r) k e = k.inside.0
    out_one t c (suc (suc b) ∷ r) k e = absurd k.inside.0

    keeps : (t c : ℕ) (r : List ℕ) → Keeps t c r → Keeps (suc t) (after c (value (out t c r))) (rest r)
    keeps t c [] k = go (z t c) refl
      where
        go : (b : Bool) → z t c ≡ b → Keeps (suc t) (after c (value (not (z t c)))) []
        go true e = rw e (record { live = live_zero t c k.live e; inside = tt })
        go false e = rw e (record { live = live_one t c k.live (a_step t c k.live e); inside = tt })
    keeps t c (zero ∷ r) k = record { live = live_zero t c k.live (is_true (z t c) k.inside.0); inside = k.inside.1 }
    keeps t c (suc zero ∷ r) k = record { live = live_one t c k.live (is_true (o t c) k.inside.0); inside = k.inside.1 }
    keeps t c (suc (suc b) ∷ r) k = absurd k.inside.0

    -- with c 1s behind, the upper edge is passed at `ends c`
    module _ (origin : T (high 0 0)) (ends : ℕ → ℕ) (passes : (t c : ℕ) → T (high t c) → t < ends c)
        (p : List ℕ) (in_p : Inside z o 0 0 p) where
      abbrev left : ℕ → List ℕ
      left zero = p
      left (suc t) = rest (left t)

      abbrev count : ℕ → ℕ
      count zero = zero
      count (suc t) = after (count t) (value (out t (count t) (left t)))

      abbrev str : ℕ → Bool
      str t = out t (count t) (left t)

      kept : (t : ℕ) → Keeps t (count t) (left t)
      kept zero = record { live = record { live = origin }; inside = in_p }
      kept (suc t) = keeps t (count t) (left t) (kept t)

      ones_count : (t : ℕ) → ones str t ≡ count t
      unfolding ones
      ones_count zero = refl
      ones_count (suc t) = ones_on str t ∙ ap (λ (c : ℕ). after c (value (str t))) (ones_count t)

      str_lies : LiesBy str
      str_lies t e = subst (λ (c : ℕ). T (o t c)) (sym (ones_count t)) (out_one t (count t) (left t) (kept t) e)

      -- past the pattern: d bounds how long it takes to the next 1
      soon : (d t : ℕ) → left t ≡ [] → ends (count t) ≤ t + d → (m : ℕ) × (t ≤ m) × (str m ≡ true)
      soon zero t e h = absurd (let v = passes t (count t) (kept t).live.live in omega arith)
      soon (suc d) t e h = go (z t (count t)) refl (λ q r. soon d (suc t) q r)
        where
          here : str t ≡ not (z t (count t))
          here = ap (out t (count t)) e

          go : (b : Bool) → z t (count t) ≡ b → (left (suc t) ≡ [] → ends (count (suc t)) ≤ suc t + d → (m : ℕ) × (suc t ≤ m) × (str m ≡ true)) → (m : ℕ) × (t ≤ m) × (str m ≡ true)
          go false ez ih = (t, le_refl t, here ∙ ap not ez)
          go true ez ih =
              let same : count (suc t) ≡ count t = ap (λ (b : Bool). after (count t) (value b)) (here ∙ ap not ez) in
              let f : ends (count t) ≤ suc t + d = omega arith in
              let r = ih (ap rest e) (subst (λ (c : ℕ). ends c ≤ suc t + d) (sym same) f) in
              (r.0, (let q = r.1 in omega arith), r.2)

      str_endless : (r : List ℕ) (t : ℕ) → left t ≡ r → (m : ℕ) × (t ≤ m) × (str m ≡ true)
      str_endless [] t e = soon (ends (count t)) t e (omega arith)
      str_endless (b ∷ r) t e = let w = str_endless r (suc t) (ap rest e) in (w.0, (let q = w.1 in omega arith), w.2)

      bit_one : (t c b : ℕ) (r : List ℕ) → Keeps t c (b ∷ r) → value (is_one b) ≡ b
      bit_one t c zero r k = refl
      bit_one t c (suc zero) r k = refl
      bit_one t c (suc (suc b)) r k = absurd k.inside.0

      str_part : (r : List ℕ) (t : ℕ) → left t ≡ r → part str t (length r) ≡ r
      str_part [] t e = refl
      str_part (b ∷ r) t e =
          let k : Keeps t (count t) (b ∷ r) = rw e at (kept t) in
          let h : value (str t) ≡ b = ap (λ (q : List ℕ). value (out t (count t) q)) e ∙ bit_one t (count t) b r k in
          λ i. h i ∷ str_part r (suc t) (ap rest e) i

      pub inside_begins : BeginsBy p
      inside_begins =
          record { stream = record { bit = str; endless = λ t. str_endless (left t) t refl }; lies = str_lies; begins = str_part p 0 refl }
