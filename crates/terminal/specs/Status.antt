-- The status that a run ends with.
use Rattle.std.specs.Prelude.{ℕ, ⊤, cond, leb, Result, Ok, Err}
use Rattle.terminal.specs.declared.failure.Failure.{Failure}
use Rattle.terminal.specs.declared.failure.Failure.TheVariants.{Refused, Trouble}

-- 0 done, 1 refused, 2 trouble
abbrev pub status_of : Result ⊤ Failure → ℕ
status_of (Ok _) = 0
status_of (Err Refused) = 1
status_of (Err Trouble) = 2

-- the one with the greater status
abbrev pub worse_of : Result ⊤ Failure → Result ⊤ Failure → Result ⊤ Failure
worse_of one other = cond (leb (status_of other) (status_of one)) one other
