-- The byte that closing turns stands within the bytes.
use Rattle.std.specs.Prelude.{◌≡◌, List, [], ◌∷◌, ℕ, zero, suc, ◌<◌, length, get_or, Ok}
use mathlib.Core.Path.{refl}
use native.Mathlib.Omega.{arith}
use Rattle.field.specs.Spelling.{AllBytes}
use Rattle.register.specs.Closing.{Closes}
use Rattle.register.specs.Promise.{OneClosed}
use Rattle.register.proofs.Promise.{close_0, closes}

there : (xs : List ℕ) (j : ℕ) → get_or xs j 0 ≡ 1 → j < length xs
there [] j h = absurd (omega (arith, h))
there (x ∷ xs) zero h = omega arith
there (x ∷ xs) (suc j) h = omega (arith, there xs j h)

pub turned_within : (s : List ℕ) (i place : ℕ) (t : List ℕ) → AllBytes s → Closes s i (Ok place) t → (place < length s) × (length t ≡ length s)
turned_within s i place t bytes h =
    let p = (close_0 s bytes i (Ok place) t h).0 (place, refl) in
    let one : OneClosed s i p.0 place t = closes s bytes i (Ok place) t h place refl p.0 p.1 in
    (omega (arith, there t place one.now_closed, one.same_length), one.same_length)
