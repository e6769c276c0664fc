-- `print_quote` is safe: a clock's expression is no longer than the sheet.
use Rattle.std.proofs.Common.{length, ap, arith}
use Rattle.register.specs.Quoting.{quoting_of}
use Rattle.quote.proofs.Short.{part_short}
use Rattle.quote.proofs.print_quote.Goals as goal

pub print_expression-requires : goal.print_expression-requires
print_expression-requires c = let a = c.args in
    omega (arith, ap length c.quote-part.ensures.part_is, part_short (quoting_of a.sheet.now a.clock) a.sheet.now)
