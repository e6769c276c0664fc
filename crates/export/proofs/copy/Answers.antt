-- `copy` meets its contract: only a refusal's part is empty. Assumes nothing.
use native.Mathlib.Omega.{arith}
use Rattle.std.specs.Prelude.{Ok}
use Rattle.std.proofs.lemmas.Bool.Decides.{nat_tests}
use Rattle.register.specs.Quoting.{RepliesTo}
use Rattle.export.proofs.Parts.{some_quoted, copies_fits}
use Rattle.export.proofs.copy.Goals.{then-is_empty+in_ok-quote_reply, else-is_empty}
use Rattle.export.proofs.copy.Goals as goal

pub returns : goal.returns
returns c =
    let replied : RepliesTo c.args.sheet.now c.args.clock (Ok tt) = elim c.if-is_empty.branch [
      | then-is_empty+in_ok-quote_reply w ↦ w.in_ok-quote_reply.ensures
      | else-is_empty w ↦ some_quoted c.quote-part.ensures (grind (arith, nat_tests))
    ] in
    copies_fits c.quote-part.ensures replied _ (omega arith) c.if-out-part.false _ _ c.put_part.ensures
