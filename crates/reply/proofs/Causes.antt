-- Causes and their numbers: each cause is the one that has its number, and 1 to 17 are the numbers of causes.
use Rattle.std.proofs.Common.{◌≡◌, ◌≢◌, refl, sym, ap, ◌∙◌, subst, ℕ, suc, ◌+◌, ◌≤◌, ◌<◌, Bool, true, false, cond, eqb, List, [], ◌∷◌, length, eqb-true, arith, rules}
use Rattle.std.proofs.lemmas.Bool.{eqb-false}
use Rattle.reply.specs.declared.Cause.{Cause}
use Rattle.reply.specs.declared.Cause.TheVariants.{Missing, Beyond, Unknown, NoOne, Absent, TooDeep, Empty, FullRate, Outgrown, Trailing, ShortResult, NoEnvelope, LongPattern, NotABit, Outside, NoClock, AlreadyClosed}
use Rattle.reply.specs.declared.Refusal.{Refusal}
use Rattle.reply.specs.Refusal.{cause_number, NoCauseIsZero}
use Rattle.reply.specs.Inner.Causes.{causes, cause_among, cause_with, refusal}

pub cause_with_number : (c : Cause) → cause_with (cause_number c) ≡ c
unfolding cause_with
cause_with_number Missing = refl
cause_with_number Beyond = refl
cause_with_number Unknown = refl
cause_with_number NoOne = refl
cause_with_number Absent = refl
cause_with_number TooDeep = refl
cause_with_number Empty = refl
cause_with_number FullRate = refl
cause_with_number Outgrown = refl
cause_with_number Trailing = refl
cause_with_number ShortResult = refl
cause_with_number NoEnvelope = refl
cause_with_number LongPattern = refl
cause_with_number NotABit = refl
cause_with_number Outside = refl
cause_with_number NoClock = refl
cause_with_number AlreadyClosed = refl

-- ---- the causes have the numbers from 1 on
abbrev CountsFrom : ℕ → List Cause → Type 0
CountsFrom n [] = Unit {0}
CountsFrom n (c ∷ cs) = (cause_number c ≡ n) × CountsFrom (suc n) cs

-- so that one of them has a number that is among theirs
among_back : (cs : List Cause) (first n : ℕ) → CountsFrom first cs → first ≤ n → n < first + length cs → cause_number (cause_among cs n) ≡ n
among_back [] first n counts h k = absurd (omega arith)
among_back (c ∷ cs) first n counts h k = go (eqb n (cause_number c)) refl (λ l. among_back cs (suc first) n counts.1 l (omega arith))
  where
    go : (b : Bool) → eqb n (cause_number c) ≡ b → (suc first ≤ n → cause_number (cause_among cs n) ≡ n) → cause_number (cond b c (cause_among cs n)) ≡ n
    go true e later = sym (eqb-true n (cause_number c) e)
    go false e later =
        let other : n ≢ cause_number c = eqb-false n (cause_number c) e in
        later (omega (arith, counts.0))

pub number_back : (n : ℕ) → 1 ≤ n → n ≤ 17 → cause_number (cause_with n) ≡ n
unfolding cause_with
number_back n h k = among_back causes 1 n (search rules) h (omega arith)

-- the cause with the number 0 is one that has another
pub no_cause_is_zero : NoCauseIsZero
unfolding cause_with
no_cause_is_zero = record { not_0 = λ c h. absurd (let e : 17 ≡ 0 = subst (λ (k : Cause). cause_number k ≡ 0) (sym (cause_with_number c) ∙ ap cause_with h) h in omega arith) }

-- a refusal is the one with its number and place
pub same_refusal : (e : Refusal) → refusal (cause_number e.cause) e.place ≡ e
same_refusal e = ap (λ (c : Cause). record { cause = c; place = e.place }) (cause_with_number e.cause)
