-- What is promised of patterns, by the very answers and bytes of `check`, `first` and `next`.
use Rattle.std.specs.Prelude.{ℕ, ◌≤◌, ◌<◌, ◌≡◌, ◌↔◌, List, [], ◌∷◌, length, get_or, Result, Ok}
use Rattle.envelope.specs.declared.Envelope.{Envelope}
use Rattle.envelope.specs.Envelope.{Taken}
use Rattle.pattern.specs.declared.Answer.{Answer}
use Rattle.pattern.specs.declared.Answer.TheVariants.{Inside, Done, Last}
use Rattle.reply.specs.declared.Refusal.{Refusal}
use Rattle.reply.specs.Refusal.{RefusedWith}
use Rattle.judging.specs.Bytes.{longest}
use Rattle.pattern.specs.Pattern.{number}
use Rattle.pattern.specs.Beginning.{Begins}
use Rattle.pattern.specs.Table.{Unfit, Refuses}
use Rattle.pattern.specs.Answer.{check_answer, first_answer, next_answer, next_bytes, Firsts, Nexts}

-- q is the least beginning, of p's length, that comes after p in binary order
pub record Successor (e : Envelope) (p q : List ℕ) : Type 0 where
  pub same_length : length q ≡ length p
  pub begins : Begins e q
  pub greater : number p < number q
  pub least : (r : List ℕ) → length r ≡ length p → Begins e r → number p < number r → number q ≤ number r

-- no beginning of p's length comes after p
abbrev pub Greatest : Envelope → List ℕ → Type 0
Greatest e p = (r : List ℕ) → length r ≡ length p → Begins e r → number r ≤ number p

-- from p, each "next" writes the pattern that comes after it in the list; of the last one it answers "last" and writes nothing
abbrev pub Steps : Envelope → List ℕ → List (List ℕ) → Type 0
Steps e p [] = (a : Result Answer Refusal) (w : List ℕ) → Nexts e p a w → (a ≡ Ok Last) × (w ≡ p)
Steps e p (q ∷ qs) = ((a : Result Answer Refusal) (w : List ℕ) → Nexts e p a w → (a ≡ Ok Done) × (w ≡ q)) × Steps e q qs

-- what "first" writes over any m bytes, and then "next", to the last
abbrev pub Met : Envelope → ℕ → List (List ℕ) → Type 0
Met e m [] = ⊥
Met e m (p ∷ ps) = ((d : List ℕ) → length d ≡ m → (a : Result Answer Refusal) (w : List ℕ) → Firsts e d a w → (a ≡ Ok Done) × (w ≡ p)) × Steps e p ps

-- the walk over the patterns of length m
pub record Walks (e : Envelope) (m : ℕ) : Type 0 where
  -- "walking from the first pattern to the last"
  pub met : List (List ℕ)
  pub walking : Met e m met
  -- "meets each beginning of an endless stream in that envelope"
  pub each : (p : List ℕ) → length p ≡ m → Begins e p → (i : ℕ) × (i < length met) × (get_or met i [] ≡ p)
  -- "exactly once"
  pub once : (i j : ℕ) → i < length met → j < length met → get_or met i [] ≡ get_or met j [] → i ≡ j
  -- "in binary order"
  pub in_order : (i j : ℕ) → i < j → j < length met → number (get_or met i []) < number (get_or met j [])
  -- "and nothing else"
  pub nothing_else : (i : ℕ) → i < length met → (length (get_or met i []) ≡ m) × Begins e (get_or met i [])

-- each refusal is given exactly when the table says, at its place
pub record PatternRefusals (e : Envelope) (p : List ℕ) : Type 0 where
  pub check : (number place : ℕ) → RefusedWith (check_answer e p) number place ↔ Refuses e p number place
  pub first : (number place : ℕ) → RefusedWith (first_answer e p) number place ↔ Unfit e p number place
  pub next : (number place : ℕ) → RefusedWith (next_answer e p) number place ↔ Refuses e p number place

-- the promises of this crate
pub record Patterns : Type 0 where
  pub refusals : (e : Envelope) (p : List ℕ) → PatternRefusals e p
  -- "inside" is answered exactly for the beginnings of endless streams in the envelope, to the longest length
  pub inside : (e : Envelope) → Taken e → (p : List ℕ) → (check_answer e p ≡ Ok Inside) ↔ ((length p ≤ longest) × Begins e p)
  -- of a pattern inside, "next" writes the successor where there is one
  pub done : (e : Envelope) (p : List ℕ) → next_answer e p ≡ Ok Done → Successor e p (next_bytes e p)
  -- and answers "last" exactly where there is none
  pub last : (e : Envelope) (p : List ℕ) → (next_answer e p ≡ Ok Last) ↔ ((check_answer e p ≡ Ok Inside) × Greatest e p)
  -- "For every envelope the program takes and every length up to 4,096"
  pub walk : (e : Envelope) → Taken e → (m : ℕ) → m ≤ longest → Walks e m
