-- The numbers of an answer: eight bytes that one fills, and all of them, put in a loop from number i on. Assumes nothing.
use mathlib.Core.Path.{◌≡◌, refl}
use mathlib.Core.List.{List, [], ◌∷◌}
use Prim.Native.Nat.{ℕ, ◌+◌, ◌<◌}
use lib.IntN.{ℤ, pos}
use native.Mathlib.Numerals.{add-one}
use lib.ListN.{length, get_or, drop}
use lib.Seq.{sets, drop-cons, drop-length}
use Rattle.field.specs.Spelling.{bytes_of, twos_by}
use Rattle.line.specs.Text.{Out, put}
use Rattle.line.proofs.Puts.{put_then}
use Rattle.batch.specs.Numbers.{numbers_of}

pub filled : (x : ℕ) → sets (0 ∷ 0 ∷ 0 ∷ 0 ∷ 0 ∷ 0 ∷ 0 ∷ 0 ∷ []) 0 (bytes_of 8 x) ≡ bytes_of 8 x
unfolding bytes_of
filled x = refl

pub numbers_more : (o p : Out) (zs : List ℤ) (i : ℕ) → i < length zs → p ≡ put o (bytes_of 8 (twos_by 9223372036854775808 (get_or zs i (pos 0)))) → put p (numbers_of (drop (i + 1) zs)) ≡ put o (numbers_of (drop i zs))
numbers_more o p zs i h e = rw (add-one i, drop-cons zs i (pos 0) h, e, put_then)

pub numbers_past : (zs : List ℤ) (i : ℕ) → i ≡ length zs → numbers_of (drop i zs) ≡ []
numbers_past zs i e = rw (e, drop-length zs)
