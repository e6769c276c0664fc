-- What is swept or scanned was admitted, and is all bits.
use Rattle.std.proofs.Common.{sym, ◌∙◌, arith}
use Rattle.judging.proofs.Admitted.{is_admitted}
use Rattle.judging.proofs.judge.Goals as goal

pub sweep_or_scan-requires : goal.sweep_or_scan-requires
sweep_or_scan-requires c =
    let h = (is_admitted _ _ _ _ (sym c.in_ok-admit.was ∙ c.admit.ensures)).0 in
    (h.taken, h.short, omega arith)
