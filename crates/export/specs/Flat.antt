-- The entry points' answers as C has them: structs of numbers.
use Rattle.std.specs.Prelude.{cond, List, ℕ, leb, length, Result, Ok, Err}
use Rattle.reply.specs.Numbers.{short_result}
use Rattle.reply.specs.declared.Refusal.{Refusal}
use Rattle.reply.specs.Refusal.{cause_number}
use Rattle.sizing.specs.declared.Totals.{Totals}
use Rattle.pattern.specs.declared.Answer.{Answer}
use Rattle.pattern.specs.declared.Answer.TheVariants.{Inside, Done, Last}
use Rattle.export.specs.declared.TxoriReply.{TxoriReply}
use Rattle.export.specs.declared.TxoriWorkOut.{TxoriWorkOut}
use Rattle.export.specs.declared.TxoriWritten.{TxoriWritten}

-- "returning both counts and both rooms", or the refusal
abbrev pub work_out_reply : Result Totals Refusal → TxoriWorkOut
work_out_reply (Ok t) =
    record { number = 0; place = 0; clocks = t.clocks; links = t.links; opened = t.opened; whole = t.whole }
work_out_reply (Err r) =
    record { number = cause_number r.cause; place = r.place; clocks = 0; links = 0; opened = 0; whole = 0 }

-- a refusal as C has it
abbrev pub refusal_reply : Refusal → TxoriReply
refusal_reply r = record { number = cause_number r.cause; place = r.place }

-- 0 and the place of the byte that was turned; or the refusal
abbrev pub close_reply : Result ℕ Refusal → TxoriReply
close_reply (Ok place) = record { number = 0; place = place }
close_reply (Err r) = refusal_reply r

-- the number that stands for "last"
abbrev pub last : ℕ
last = 255

-- 0 where the pattern is inside or the slice is filled
abbrev pub answer_reply : Result Answer Refusal → TxoriReply
answer_reply (Ok Inside) = record { number = 0; place = 0 }
answer_reply (Ok Done) = record { number = 0; place = 0 }
answer_reply (Ok Last) = record { number = last; place = 0 }
answer_reply (Err r) = refusal_reply r

-- "11: a lent result slice is too short", at 0
abbrev pub short : TxoriWritten
short = record { number = short_result; place = 0; length = 0 }

-- "the refusal's number and place, or 0 and 0 where the expression is quoted", and how many bytes were copied
abbrev pub copied : Result (Unit {0}) Refusal → ℕ → TxoriWritten
copied (Ok u) bytes = record { number = 0; place = 0; length = bytes }
copied (Err r) bytes = record { number = cause_number r.cause; place = r.place; length = bytes }

-- the part's length; or that the buffer is too short for it
abbrev pub quote_written : Result (Unit {0}) Refusal → List ℕ → ℕ → TxoriWritten
quote_written r part room = cond (leb (length part) room) (copied r (length part)) short

-- the length of the listing; or the refusal, with length 0
abbrev pub list_written : Result ℕ Refusal → TxoriWritten
list_written (Ok bytes) = record { number = 0; place = 0; length = bytes }
list_written (Err r) = record { number = cause_number r.cause; place = r.place; length = 0 }
