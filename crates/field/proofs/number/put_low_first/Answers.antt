-- `put_low_first` meets its contract: the bytes that are left, put from here on, give what is to be put from the start.
use mathlib.Core.Path.{◌≡◌, ◌∙◌}
use Prim.Native.Nat.{◌+◌, ◌-◌}
use native.Mathlib.Omega.{arith}
use Rattle.field.proofs.Spelling.{lowest_first}
use Rattle.field.proofs.number.put_low_first.Goals as goal

pub loop-byte-preserved : goal.loop-byte-preserved
loop-byte-preserved c = let l = c.loop-byte in
    let left : c.args.width - (l.byte-index + 1) ≡ c.args.width - l.byte-index - 1 = omega arith in
    rw left (lowest_first l.byte-items l.byte-index (c.args.width - l.byte-index) l.rest (omega arith) ∙ l.invariant)
