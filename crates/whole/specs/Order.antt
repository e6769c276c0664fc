-- The larger and the smaller of two whole numbers.
use Rattle.std.specs.Prelude.{cond, ℤ}
use Rattle.std.specs.Int.Signed.{lt_z}

abbrev pub larger : ℤ → ℤ → ℤ
larger x y = cond (lt_z x y) y x

abbrev pub smaller : ℤ → ℤ → ℤ
smaller x y = cond (lt_z x y) x y
