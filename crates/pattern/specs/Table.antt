-- "Reply numbers", 12 to 15: which refusal four numbers and a pattern get, and where. "Patterns: 12, 13, 14 over the whole pattern, 15."
use Rattle.std.specs.Prelude.{ℕ, suc, ◌≤◌, ◌<◌, List, length, get_or, take}
use Rattle.envelope.specs.declared.Envelope.{Envelope}
use Rattle.envelope.specs.Envelope.{Taken}
use Rattle.pattern.specs.Step.{one_may, zero_may}
use Rattle.pattern.specs.Pattern.{Inside}

-- "A pattern is inside when each step may be taken."
abbrev pub IsInside : Envelope → List ℕ → Type 0
IsInside e p = Inside (zero_may e) (one_may e) 0 0 p

-- 12 and 13: those of "first"
pub data Unfit (e : Envelope) (p : List ℕ) : ℕ → ℕ → Type 0 where
  -- "four numbers that are no taken, normal envelope": 0
  no_taken_envelope : (Taken e → ⊥) → Unfit e p 12 0
  -- "pattern longer than 4,096": 0
  too_long : Taken e → 4_096 < length p → Unfit e p 13 0

-- 12 to 15: those of "check" and "next"
pub data Refuses (e : Envelope) (p : List ℕ) : ℕ → ℕ → Type 0 where
  unfit : {number place : ℕ} → Unfit e p number place → Refuses e p number place
  -- "pattern byte not 0 or 1": "the first such"
  no_bit : {place : ℕ} → Taken e → length p ≤ 4_096 → place < length p → 1 < get_or p place 0 → ((t : ℕ) → t < place → get_or p t 0 ≤ 1) → Refuses e p 14 place
  -- "pattern outside the envelope": "first forbidden step"
  forbidden : {place : ℕ} → Taken e → length p ≤ 4_096 → ((t : ℕ) → t < length p → get_or p t 0 ≤ 1) → place < length p
      → IsInside e (take place p) → (IsInside e (take (suc place) p) → ⊥) → Refuses e p 15 place
