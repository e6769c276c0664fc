-- No product and no sum leaves the type.
use native.Mathlib.Omega.{arith}
use lib.IntN.{ℤ, pos, ◌+ℤ◌, ◌*ℤ◌}
use lib.Signed.{◌≤ℤ◌}
use mathlib.Core.Path.{◌≡◌}
use Prim.Native.Nat.{ℕ, ◌≤◌}
use mir.Syntax.{w64}
use mir.Val.{SFits, to_z, of_z}
use mir.Facts.{to_z-of_z}
use Rattle.whole.proofs.Bridge.{signed, up_sum, down_sum}
use Rattle.whole.proofs.Machine.{fits_by, back_by}
use Rattle.envelope.specs.Limits.{l_most, lower_least, lower_most}
use Rattle.envelope.proofs.Held.{small_held, product}
use Rattle.envelope.proofs.cross.Goals as goal
use Rattle.envelope.proofs.cross.Goals.{Start}

-- what the machine has for a product
back : (x : ℤ) (n : ℕ) → SFits w64 x → n ≤ l_most → lower_least ≤ℤ x → x ≤ℤ lower_most → to_z w64 (of_z w64 (to_z w64 (of_z w64 x) *ℤ to_z w64 n)) ≡ x *ℤ pos n
back x n f h p q = back_by ◌*ℤ◌ (to_z-of_z f) (small_held n h) (omega (arith, signed, product x n h p q))

-- the two products, and their sum
module _ (c : Start) where
  first : to_z w64 (of_z w64 (to_z w64 (of_z w64 c.args.x) *ℤ to_z w64 c.args.n)) ≡ c.args.x *ℤ pos c.args.n
  first = back c.args.x c.args.n c.ranges.x c.requires.n_le_l_most.0 c.requires.lower_least_le_x.0 c.requires.lower_least_le_x.1

  second : to_z w64 (of_z w64 (to_z w64 (of_z w64 c.args.y) *ℤ to_z w64 c.args.l)) ≡ c.args.y *ℤ pos c.args.l
  second = back c.args.y c.args.l c.ranges.y c.requires.n_le_l_most.1 c.requires.lower_least_le_y.0 c.requires.lower_least_le_y.1

  both : SFits w64 (c.args.x *ℤ pos c.args.n +ℤ c.args.y *ℤ pos c.args.l)
  both =
      let r = c.requires in
      let p : ℤ = c.args.x *ℤ pos c.args.n in
      let q : ℤ = c.args.y *ℤ pos c.args.l in
      omega (arith, signed, up_sum p q, down_sum p q, product c.args.x c.args.n r.n_le_l_most.0 r.lower_least_le_x.0 r.lower_least_le_x.1, product c.args.y c.args.l r.n_le_l_most.1 r.lower_least_le_y.0 r.lower_least_le_y.1)

pub overflow_add-result : goal.overflow_add-result
overflow_add-result c = let s = (goal.at.overflow_add-result c).Start in fits_by ◌+ℤ◌ (first s) (second s) (both s)

pub returns : goal.returns
returns c = let s = (goal.at.returns c).Start in back_by ◌+ℤ◌ (first s) (second s) (both s)
