-- `link_ends` meets its contract: each end is below the number of clocks. Assumes nothing.
use Rattle.std.proofs.Common.{sym, arith}
use Rattle.field.proofs.Fields.{field_there}
use Rattle.reading.proofs.link_ends.Goals as goal

pub of-requires : goal.of-requires
of-requires c =
    let most = c.requires in (
      omega (arith, (field_there _ _ _ _ _ _ _ _ (sym c.in_ok-i.ensures)).most, most),
      omega (arith, (field_there _ _ _ _ _ _ _ _ (sym c.in_ok-j.ensures)).most, most),
    )
