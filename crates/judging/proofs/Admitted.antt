-- What is known where a pattern is admitted, and where it is not.
-- Assumes nothing.
use Rattle.std.proofs.Common.{◌≡◌, ◌≤◌, Bool, true, false, cond, ltb, List, ℕ, length, refl, Result, Ok, Err, ltb-false}
use Rattle.reply.specs.declared.Cause.TheVariants.{NoEnvelope, LongPattern}
use Rattle.reply.specs.declared.Refusal.{Refusal}
use Rattle.reply.specs.Refusal.{refused_for}
use Rattle.envelope.specs.declared.Envelope.{Envelope}
use Rattle.envelope.specs.Envelope.{Taken}
use Rattle.envelope.specs.Inner.Tests.{is_taken}
use Rattle.envelope.proofs.Tests.{is_taken_lem}
use Rattle.judging.specs.Bytes.{longest}
use Rattle.judging.specs.Inner.Scan.{admitted}

-- a refusal of an admission is one of all that is asked only after it
pub not_admitted : {A B : Type 0} (e : Envelope) (p : List ℕ) (x : A) (b : Result B Refusal) (r : Refusal) → Err r ≡ admitted e p (Ok x) → Err r ≡ admitted e p b
not_admitted {A} {B} e p x b r q = go (is_taken e) (ltb longest (length p)) q
  where
    go : (s t : Bool) → ◌≡◌ {A = Result A Refusal} (Err r) (cond s (cond t (refused_for LongPattern 0) (Ok x)) (refused_for NoEnvelope 0)) → ◌≡◌ {A = Result B Refusal} (Err r) (cond s (cond t (refused_for LongPattern 0) b) (refused_for NoEnvelope 0))
    go true true q = cc
    go true false q = absurd (cc)
    go false t q = cc

-- what is admitted
pub record Admitted (e : Envelope) (p : List ℕ) : Type 0 where
  pub fine : is_taken e ≡ true
  pub taken : Taken e
  pub short : length p ≤ longest

-- an answer that is no refusal is one of all that is asked after the admission
pub is_admitted : {A : Type 0} (e : Envelope) (p : List ℕ) (a : Result A Refusal) (x : A) → Ok x ≡ admitted e p a → Admitted e p × (Ok x ≡ a)
is_admitted {A} e p a x q = go (is_taken e) (ltb longest (length p)) refl refl q
  where
    go : (s t : Bool) → is_taken e ≡ s → ltb longest (length p) ≡ t → ◌≡◌ {A = Result A Refusal} (Ok x) (cond s (cond t (refused_for LongPattern 0) a) (refused_for NoEnvelope 0)) → Admitted e p × (Ok x ≡ a)
    go true true es et q = absurd (cc)
    go true false es et q = (record { fine = es; taken = is_taken_lem e es; short = ltb-false longest (length p) et }, q)
    go false t es et q = absurd (cc)
