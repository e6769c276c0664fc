-- `put_decimal` meets its contract. Assumes nothing.
use mathlib.Core.Path.{◌≡◌}
use mathlib.Core.List.{◌∷◌}
use mir.Facts.{to_z-of_z}
use Rattle.line.specs.Text.{minus, digits, decimal, put}
use Rattle.line.proofs.Signs.{minus_first, no_minus}
use Rattle.line.proofs.Writer.put_decimal.Goals.{then-z-lt0, else-z-lt0}
use Rattle.line.proofs.Writer.put_decimal.Goals as goal

pub returns : goal.returns
unfolding put
returns c = elim c.if-z-lt0.branch [
  | then-z-lt0 w ↦
      let signed : minus ∷ digits c.magnitude.result ≡ decimal c.args.z = minus_first (to_z-of_z c.ranges.z) w.if-z-lt0.true c.magnitude.ensures in
      rw (← signed) (record { same = cc; put = cc })
  | else-z-lt0 w ↦
      let plain : digits c.magnitude.result ≡ decimal c.args.z = no_minus (to_z-of_z c.ranges.z) w.if-z-lt0.false c.magnitude.ensures in
      rw (← plain) (record { same = cc; put = cc })
]
