-- Laws of readings: what a chain of steps that ends well went through. Assumes nothing.
use mathlib.Core.Path.{◌≡◌, refl, sym, ap, ◌∙◌}
use mathlib.Core.Bool.{Bool, true, false, cond}
use Prim.Native.Nat.{ℕ}
use Rattle.std.specs.Prelude.{Result, Ok, Err}
use Rattle.std.specs.Result.{IsErr, IsErrAnd}
use Rattle.reply.specs.declared.Cause.{Cause}
use Rattle.reply.specs.declared.Refusal.{Refusal}
use Rattle.reply.specs.Refusal.{cause_number}
use Rattle.reply.proofs.Causes.{cause_with_number}
use Rattle.reply.proofs.Refusals.{passed_on}
use Rattle.field.specs.declared.Cursor.{Cursor}
use Rattle.field.specs.Field.{read_of, answer_of}
use Rattle.field.specs.Read.{Read, Read.got, Read.refused, bind, mapped}

-- a refusal is no piece
pub refused_got : {A B : Type 0} {n p c : ℕ} {x : A} → ◌≡◌ {A = Read A} (refused n p) (got x c) → B
refused_got e = absurd (cc)

-- a piece that follows another
pub through : {A B : Type 0} (f : Read A) (go : A → ℕ → Read B) (y : B) (c : ℕ) → bind f go ≡ got y c → (x : A) × (d : ℕ) × (f ≡ got x d) × (go x d ≡ got y c)
through (got x d) go y c h = (x, d, refl, h)
through (refused n p) go y c h = refused_got h

-- a test that was passed
pub cond_left : {A : Type 0} (t : Bool) (x : Read A) (n p : ℕ) (y : A) (c : ℕ) → cond t x (refused n p) ≡ got y c → (t ≡ true) × (x ≡ got y c)
cond_left true x n p y c h = (refl, h)
cond_left false x n p y c h = refused_got h

-- what holds of a refusal's number and place holds of those of the same refusal
pub same_refused : {A : Type 0} (P : ℕ → ℕ → Type 0) {n q number place : ℕ} → ◌≡◌ {A = Read A} (refused n q) (refused number place) → P n q → P number place
same_refused P {n} {q} {number} {place} e h =
    let a : n ≡ number = cc in
    let b : q ≡ place = cc in
    rw (← a, ← b) h

-- what was read, seen through f
pub mapped_got : {A B : Type 0} (f : A → B) (r : Read A) (y : B) (c : ℕ) → mapped f r ≡ got y c → (x : A) × (r ≡ got x c) × (f x ≡ y)
mapped_got f (got x d) y c h =
    let z : d ≡ c = cc in
    (x, ap (λ (k : ℕ). got x k) z, cc)
mapped_got f (refused number place) y c h = refused_got h

pub mapped_refused : {A B : Type 0} (f : A → B) (r : Read A) (number place : ℕ) → mapped f r ≡ refused number place → r ≡ refused number place
mapped_refused f (got x d) number place h = refused_got (sym h)
mapped_refused {A} f (refused k q) number place h = same_refused (λ m p. ◌≡◌ {A = Read A} (refused k q) (refused m p)) h refl

-- ---- the code's answers: each is the one of its reading

pub answered : {A : Type 0} (r : Result (A × Cursor) Refusal) → answer_of (read_of r) ≡ r
answered (Ok (x, c)) = refl
answered (Err r) = ap (λ (k : Cause). Err (record { cause = k; place = r.place })) (cause_with_number r.cause)

-- an answer whose reading is known
pub answer_is : {A : Type 0} {r : Result (A × Cursor) Refusal} {f : Read A} → read_of r ≡ f → r ≡ answer_of f
answer_is {r = r} e = sym (answered r) ∙ ap answer_of e

-- what the exit of a `?` answers, as a reading
pub read_passed_on : {A : Type 0} (r : Result (A × Cursor) Refusal) (e : Refusal) {X : Read A} → IsErr r × IsErrAnd r (λ y. y ≡ e) → refused (cause_number e.cause) e.place ≡ X → read_of r ≡ X
read_passed_on r e h f = ap read_of (passed_on r e h) ∙ f
