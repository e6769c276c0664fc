-- No second reply satisfies the contract of an entry point, where none satisfies that of the function behind it. Assumes nothing.
use mathlib.Core.Logic.{◌≢◌}
use mathlib.Core.Path.{refl, ◌≡◌, sym, ap, ap₂, ◌∙◌}
use mathlib.Core.List.{List}
use Prim.Native.Nat.{ℕ}
use lib.ListN.{length}
use Rattle.std.specs.Prelude.{Result, Ok, Err}
use Rattle.reply.specs.declared.Refusal.{Refusal}
use Rattle.sizing.specs.declared.Totals.{Totals}
use Rattle.report.specs.Listing.{over}
use Rattle.export.specs.Flat.{work_out_reply, quote_written}
use Rattle.export.specs.Promise.{NoSecondReply, NoTotals, NothingOnRefusal}

pub no_second_reply : NoSecondReply
no_second_reply =
    record {
      one_reply = λ flat Contract one r q t u a b.
          let same = one a.answer b.answer t u a.satisfies b.satisfies in
          (a.reply_is ∙ ap flat same.0 ∙ sym b.reply_is, same.1);
      one_copy = λ s i at out r q t u a b.
          let part : a.part ≡ b.part = a.quoted.part_is ∙ sym b.quoted.part_is in
          let answer : a.answer ≡ b.answer = a.replied.reply_is ∙ sym b.replied.reply_is in (
            a.reply_is ∙ ap₂ (λ (x : Result (Unit {0}) Refusal) (p : List ℕ). quote_written x p (length out)) answer part ∙ sym b.reply_is,
            a.out_is ∙ ap (λ (p : List ℕ). over p out) part ∙ sym b.out_is,
          );
    }

-- by what working out answered
empty : (a : Result Totals Refusal) → (work_out_reply a).number ≢ 0 → NoTotals (work_out_reply a)
empty (Ok t) h = absurd (h refl)
empty (Err e) h = record { clocks = refl; links = refl; opened = refl; whole = refl }

pub nothing_on_refusal : NothingOnRefusal
nothing_on_refusal = record { no_totals = λ s clocks links cs ls r a h. rw a.reply_is (empty a.answer (rw (← a.reply_is) h)) }
