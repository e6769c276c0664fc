-- Where clocks begin, for those who skip the expressions before them. Assumes nothing.
use mathlib.Core.Path.{◌≡◌}
use mathlib.Core.List.{List}
use Prim.Native.Nat.{ℕ, ◌+◌, ◌<◌}
use native.Mathlib.Numerals.{add-one}
use native.Mathlib.Omega.{arith}
use Rattle.expression.specs.Inner.Skipping.{HasExpr}
use Rattle.expression.proofs.Lookup.{lookup_there}
use Rattle.sheet.specs.Sheet.{Sheet}
use Rattle.sheet.specs.Locating.{clock_place}
use Rattle.sheet.proofs.Spelling.Places.{clock_bytes, expr_bytes, next_place}
use Rattle.finding.specs.Inner.Skipping.{HasClocks}

module _ {s : List ℕ} {first i : ℕ} {v : Sheet} (h : HasClocks s first i v) where
  -- behind a clock's state stands its expression, up to the next clock
  pub clock_expr : (j at : ℕ) → at ≡ clock_place v j → j < i → HasExpr s (at + 1) (clock_place v (j + 1))
  clock_expr j at e lt =
      let k = lookup_there v.clocks j (omega (arith, h.many)) in
      record {
        expr = k.0.expr;
        bytes = rw (e, add-one (clock_place v j), add-one j, h.text, ← next_place v j k.0 k.1) (expr_bytes k.0 (clock_bytes v j k.0 k.1));
      }
