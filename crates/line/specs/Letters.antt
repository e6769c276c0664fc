-- The bytes of a text as it is written.
use Rattle.std.specs.Prelude.{List, ℕ}
use Prim.Native.Char.{code}
use Prim.Native.String.{String, [], ◌∷◌}

abbrev pub letters : String → List ℕ
letters [] = List.[]
letters (c ∷ s) = List.◌∷◌ (code c) (letters s)
