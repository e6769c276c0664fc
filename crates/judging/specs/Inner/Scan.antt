-- What the code's loops find. They carry n*i - l*j along as one number, the offset d of a place.
use Rattle.std.specs.Prelude.{◌≡◌, ℕ, zero, suc, ◌*◌, max, Bool, cond, ◌&&◌, ◌==◌, List, [], ◌∷◌, length, fold, ℤ, pos, ◌+ℤ◌, ◌-ℤ◌, neg_ℤ, ◌≤ℤ◌, int_le, nat_lt, Result, Ok}
use Rattle.std.specs.List.{prefix_len}
use Rattle.reply.specs.declared.Cause.TheVariants.{NoEnvelope, LongPattern, NotABit, Outside}
use Rattle.reply.specs.declared.Refusal.{Refusal}
use Rattle.reply.specs.Refusal.{refused_for}
use Rattle.envelope.specs.declared.Envelope.{Envelope}
use Rattle.envelope.specs.Limits.{l_most}
use Rattle.envelope.specs.Inner.Tests.{is_taken}
use Rattle.judging.specs.Bytes.{longest, plain}

-- an offset after i bits is this near to 0
pub record Near (i : ℕ) (d : ℤ) : Type 0 where
  pub not_below : neg_ℤ (pos (l_most * i)) ≤ℤ d
  pub not_above : d ≤ℤ pos (l_most * i)

-- a 1 may follow
unfoldable pub one_at : Envelope → ℤ → Bool
one_at e d = int_le e.k d && int_le d e.K

-- a 0 may follow
unfoldable pub zero_at : Envelope → ℤ → Bool
zero_at e d = int_le (d +ℤ pos e.n) e.K

-- the bit b may follow, where it is one
abbrev pub may_at : Envelope → ℤ → ℕ → Bool
may_at e d zero = zero_at e d
may_at e d (suc b) = one_at e d

-- what the bit b adds to the offset
abbrev pub step_of : Envelope → ℕ → ℤ
step_of e zero = pos e.n
step_of e (suc b) = pos e.n -ℤ pos e.l

-- the offset after the bit b
abbrev pub offset_after : Envelope → ℤ → ℕ → ℤ
offset_after e d b = d +ℤ step_of e b

-- from place i on: the first forbidden step, or the offset past the end
abbrev pub scanned : Envelope → ℕ → ℤ → List ℕ → Result ℤ Refusal
scanned e i d [] = Ok d
scanned e i d (b ∷ p) = cond (may_at e d b) (scanned e (suc i) (offset_after e d b) p) (refused_for Outside i)

-- some bits may all follow where the offset is d, and leave r behind, at whatever place they begin
abbrev pub Swept : Envelope → ℤ → List ℕ → ℤ → Type 0
Swept e d p r = (i : ℕ) → scanned e i d p ≡ Ok r

-- how many 0s some bits begin with
abbrev pub leading_of : List ℕ → ℕ
leading_of p = prefix_len (λ b. b == 0) p

-- the least offset that a 1 may leave behind
abbrev pub floor_of : Envelope → ℤ
floor_of e = e.k +ℤ step_of e 1

-- the largest of m and of some bytes
abbrev pub largest_from : ℕ → List ℕ → ℕ
largest_from m p = fold max m p

-- "four numbers that are no taken, normal envelope", then "pattern longer than 4,096", both at 0; else a
abbrev pub admitted : {A : Type 0} → Envelope → List ℕ → Result A Refusal → Result A Refusal
admitted e p a =
    cond (is_taken e)
    (cond (nat_lt longest (length p)) (refused_for LongPattern 0) a)
    (refused_for NoEnvelope 0)

-- 12 to 15, or the offset past the end
unfoldable pub end_offset : Envelope → List ℕ → Result ℤ Refusal
end_offset e p = admitted e p (cond (nat_lt (plain p) (length p)) (refused_for NotABit (plain p)) (scanned e 0 (pos 0) p))
