-- Where l and n differ there are 0s to exchange, and what is within its limits is taken.
use native.Mathlib.Omega.{arith}
use Prim.Native.Nat.{◌<◌}
use Rattle.envelope.proofs.MadeTaken.{not_made}
use Rattle.envelope.proofs.Envelope.negated.Goals as goal

pub returns-clause-taken : goal.returns-clause-taken
returns-clause-taken c =
    let less : c.args.self.n < c.args.self.l = omega arith in
    rw (c.limited_to.ensures, c.not.ensures) (not_made c.args.self c.requires less)
