-- A pattern is inside a taken envelope exactly when it is the beginning of an endless stream that lies in it; and the walk over what is inside.
-- Assumes nothing.
use Prim.Native.Nat.{ℕ, suc, ◌*◌}
use mathlib.Core.Path.{◌≡◌, refl, subst}
use mathlib.Core.Bool.{Bool}
use mathlib.Core.List.{List}
use lib.IntN.{pos, ◌+ℤ◌}
use lib.Signed.{◌≤ℤ◌}
use Rattle.envelope.specs.declared.Envelope.{Envelope}
use Rattle.envelope.specs.Envelope.{Taken}
use Rattle.envelope.specs.Stream.{ones, Position}
use Rattle.pattern.specs.Step.{low, high, one_may, zero_may}
use Rattle.pattern.specs.Pattern.{Inside, fill}
use Rattle.pattern.specs.Beginning.{Begins}
use Rattle.pattern.proofs.Walking.{walked, Walked}
use Rattle.pattern.proofs.Streams.{BeginsBy, Live, live_zero, live_one, a_step, begins_inside, inside_begins, and_intro, and_left, and_right}
use Rattle.pattern.proofs.Edges.{low_reads, high_reads, low_shows, high_shows, sooner, sloped, roomy, origin, ends, passes}

module _ (e : Envelope) where
  -- by the tests, and by the definition of a stream that lies in the envelope
  by_tests : (p : List ℕ) → Begins e p → BeginsBy (low e) (high e) p
  by_tests p b =
      record {
        stream = b.stream;
        lies =
            λ t h.
            let at : Position b.stream.bit (ones b.stream.bit t) t = record { is_one = h; before = refl } in
            and_intro (low e t (ones b.stream.bit t)) (high e t (ones b.stream.bit t))
            (low_shows e t (ones b.stream.bit t) (b.lies.low (ones b.stream.bit t) t at))
            (high_shows e t (ones b.stream.bit t) (b.lies.high (ones b.stream.bit t) t at));
        begins = b.begins;
      }

  of_tests : (p : List ℕ) → BeginsBy (low e) (high e) p → Begins e p
  of_tests p b =
      record {
        stream = b.stream;
        lies = record {
          low = λ j t at. subst (λ (c : ℕ). (pos (e.l * c) +ℤ e.k) ≤ℤ pos (e.n * t)) at.before (low_reads e t (o t) (and_left (low e t (o t)) (high e t (o t)) (b.lies t at.is_one)));
          high = λ j t at. subst (λ (c : ℕ). pos (e.n * t) ≤ℤ (pos (e.l * c) +ℤ e.K)) at.before (high_reads e t (o t) (and_right (low e t (o t)) (high e t (o t)) (b.lies t at.is_one)));
        };
        begins = b.begins;
      }
    where
      o : ℕ → ℕ
      o t = ones b.stream.bit t

  pub begins_in : (p : List ℕ) → Begins e p → Inside (zero_may e) (one_may e) 0 0 p
  unfolding zero_may one_may
  begins_in p b = begins_inside (low e) (high e) (sooner e) p (by_tests p b)

  module _ (t : Taken e) where
    pub in_begins : (p : List ℕ) → Inside (zero_may e) (one_may e) 0 0 p → Begins e p
    unfolding zero_may one_may
    in_begins p v =
        of_tests p (inside_begins (low e) (high e) (sloped e t) (roomy e t) (origin e t) (ends e t) (passes e t) p v)

    -- where the upper edge holds, a step may be taken, and it holds after that step
    pub live_0 : (i j : ℕ) → Live (low e) (high e) i j → zero_may e i j ≡ Bool.true → Live (low e) (high e) (suc i) j
    unfolding zero_may
    live_0 = live_zero (low e) (high e)

    pub live_1 : (i j : ℕ) → Live (low e) (high e) i j → one_may e i j ≡ Bool.true → Live (low e) (high e) (suc i) (suc j)
    unfolding one_may
    live_1 = live_one (low e) (high e) (sloped e t) (roomy e t)

    pub step_on : (i j : ℕ) → Live (low e) (high e) i j → zero_may e i j ≡ Bool.false → one_may e i j ≡ Bool.true
    unfolding zero_may one_may
    step_on = a_step (low e) (high e) (sloped e t) (roomy e t)

    pub live_start : Live (low e) (high e) 0 0
    live_start = record { live = origin e t }

    pub walk_in : (m : ℕ) → Walked (zero_may e) (one_may e) 0 0 m (fill (zero_may e) (one_may e) 0 0 m)
    walk_in m = walked (zero_may e) (one_may e) (Live (low e) (high e)) live_0 live_1 step_on m 0 0 live_start
