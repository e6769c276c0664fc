-- What each entry point promises C: what the function behind it promises, with the answer as C has it.
use Rattle.std.specs.Prelude.{◌≡◌, ◌≢◌, List, ℕ, ℤ, length, Result}
use Rattle.reply.specs.declared.Refusal.{Refusal}
use Rattle.sizing.specs.WorkOut.{WorksOut}
use Rattle.register.specs.Quoting.{Quotes, RepliesTo}
use Rattle.report.specs.Listing.{over}
use Rattle.export.specs.declared.TxoriWorkOut.{TxoriWorkOut}
use Rattle.export.specs.declared.TxoriWritten.{TxoriWritten}
use Rattle.export.specs.Flat.{work_out_reply, quote_written}

-- r is some answer that satisfies the contract, written flat
pub record As {A B : Type 0} (flat : A → B) (Contract : A → Type 0) (r : B) : Type 0 where
  pub answer : A
  pub satisfies : Contract answer
  pub reply_is : r ≡ flat answer

-- a part that `quote` hands back, with what `quote_reply` says, is copied where it fits: out at the beginning, out-end at the end
pub record Copies (s : List ℕ) (i : ℕ) (at : ℕ × ℕ) (out : List ℕ) (r : TxoriWritten) (out_end : List ℕ) : Type 0 where
  pub part : List ℕ
  pub from : ℕ × ℕ
  pub answer : Result (Unit {0}) Refusal
  pub quoted : Quotes s i at part from
  pub replied : RepliesTo s i answer
  pub reply_is : r ≡ quote_written answer part (length out)
  pub out_is : out_end ≡ over part out

-- no second reply, and no second state of the memory, where the contract has none: Demand1 says so of each
pub record NoSecondReply : Type 1 where
  pub one_reply : {A B M : Type 0} (flat : A → B) (Contract : A → M → Type 0) → ((a b : A) (t u : M) → Contract a t → Contract b u → (a ≡ b) × (t ≡ u))
      → (r q : B) (t u : M) → As flat (λ a. Contract a t) r → As flat (λ a. Contract a u) q → (r ≡ q) × (t ≡ u)
  pub one_copy : (s : List ℕ) (i : ℕ) (at : ℕ × ℕ) (out : List ℕ) (r q : TxoriWritten) (t u : List ℕ) → Copies s i at out r t → Copies s i at out q u → (r ≡ q) × (t ≡ u)

-- no count and no total
pub record NoTotals (r : TxoriWorkOut) : Type 0 where
  pub clocks : r.clocks ≡ 0
  pub links : r.links ≡ 0
  pub opened : r.opened ≡ 0
  pub whole : r.whole ≡ 0

-- "A refusal returns number and place, every count and total 0": of any sheet s, whatever the two lent slices are
pub record NothingOnRefusal : Type 0 where
  pub no_totals : (s : List ℕ) (clocks links cs ls : List ℤ) (r : TxoriWorkOut) → As work_out_reply (λ a. WorksOut s clocks links a cs ls) r → r.number ≢ 0 → NoTotals r
