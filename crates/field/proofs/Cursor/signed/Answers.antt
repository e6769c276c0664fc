-- Four bytes spell a number of 32 bits.
use mathlib.Core.Path.{sym}
use native.Mathlib.Omega.{arith}
use Rattle.field.proofs.Spelling.{limit4}
use Rattle.field.proofs.Fields.{field_bytes}
use Rattle.field.proofs.Cursor.signed.Goals as goal

pub from_twos-requires : goal.from_twos-requires
from_twos-requires c =
    let b = field_bytes c.args.s.now (λ j. (c.type_inv.s j).fits) 4 c.args.self.at _ _ (sym c.in_ok-v.ensures) in
    omega (arith, b.0, limit4)
