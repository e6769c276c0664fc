-- The operations of docs/BATCH.md by their numbers.
use Rattle.std.specs.Prelude.{◌⊎◌, ℕ, ◌≡◌, ◌<◌, Result, MatchResult}
use Rattle.batch.specs.declared.case.Ask.TheVariants.{Check, First, Next}
use Rattle.batch.specs.declared.case.Op.{Op}
use Rattle.batch.specs.declared.case.Op.TheVariants.{WorkOut, Close, Quote, Pattern, List}
use Rattle.batch.specs.declared.case.Stop.{Stop}

abbrev pub op_number : Op → ℕ
op_number WorkOut = 1
op_number Close = 2
op_number Quote = 3
op_number (Pattern Check) = 4
op_number (Pattern First) = 5
op_number (Pattern Next) = 6
op_number List = 7

-- the operation with a number, or none has it
abbrev pub OpOf : ℕ → Result Op Stop → Type 0
OpOf number r = MatchResult r (λ op. op_number op ≡ number) (λ _. (number ≡ 0) ⊎ (7 < number))
