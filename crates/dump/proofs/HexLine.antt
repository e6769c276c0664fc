-- A line of bytes in hexadecimal, put in a loop, from byte i on; and its length. Assumes nothing.
use mathlib.Core.Path.{◌≡◌, refl}
use mathlib.Core.List.{List, [], ◌∷◌, ◌++◌}
use Prim.Native.Nat.{ℕ, ◌+◌, ◌-◌, ◌*◌, ◌<◌}
use native.Mathlib.Numerals.{add-one}
use native.Mathlib.Omega.{arith}
use borrow.Author.Tests.{eq-eqb, ne_eqb}
use lib.ListN.{length, get_or, drop, length-drop}
use lib.Seq.{drop-cons, drop-length}
use Rattle.line.specs.Text.{Out, put}
use Rattle.line.proofs.Puts.{put_then}
use Rattle.dump.specs.HexLine.{between, after_byte, hex_byte, hex_line}

between_is : (rest : List ℕ) (i n : ℕ) → i < n → length rest ≡ n - (i + 1) → between rest ≡ after_byte i n
between_is [] i n h e = let last : i + 1 ≡ n = omega arith in rw (eq-eqb (i + 1) n last)
between_is (b ∷ t) i n h e = rw (ne_eqb (i + 1) n (λ k. omega arith))

hex_from : (bytes : List ℕ) (i : ℕ) → i < length bytes → hex_line (drop i bytes) ≡ hex_byte (get_or bytes i 0) (after_byte i (length bytes)) ++ hex_line (drop (i + 1) bytes)
unfolding hex_line
hex_from bytes i h = rw (← between_is (drop (i + 1) bytes) i (length bytes) h (length-drop (i + 1) bytes), add-one i, drop-cons bytes i 0 h)

pub hex_more : (o p : Out) (bytes : List ℕ) (i : ℕ) → i < length bytes → p ≡ put o (hex_byte (get_or bytes i 0) (after_byte i (length bytes))) → put p (hex_line (drop (i + 1) bytes)) ≡ put o (hex_line (drop i bytes))
hex_more o p bytes i h e = rw (hex_from bytes i h, put_then, e)

pub hex_past : (bytes : List ℕ) (i : ℕ) → i ≡ length bytes → hex_line (drop i bytes) ≡ []
unfolding hex_line
hex_past bytes i e = rw (e, drop-length bytes)

pub hex_length : (bytes : List ℕ) → length (hex_line bytes) ≡ 3 * length bytes
unfolding hex_line
hex_length [] = refl
hex_length (b ∷ t) = omega (arith, hex_length t)
