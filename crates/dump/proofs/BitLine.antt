-- A line of bits, put in a loop, from bit i on, or in one piece; and its length. Assumes nothing.
use mathlib.Core.Path.{◌≡◌, refl, sym, ap, ap₂, ◌∙◌}
use mathlib.Core.List.{List, [], ◌∷◌, ◌++◌, append_assoc, map}
use Prim.Native.Nat.{ℕ, ◌+◌, ◌≤◌, ◌<◌}
use native.Mathlib.Numerals.{add-one}
use native.Mathlib.Omega.{arith}
use borrow.Rule.Slice.PartMut.{put_mid}
use lib.ListN.{length, get_or, take, drop}
use lib.Seq.{sets, sets-eq, drop-cons, drop-length}
use Rattle.std.proofs.lemmas.List.{drop-drop, length-map}
use Rattle.line.specs.Text.{Out, out_of, top, line_feed, put, put_one}
use Rattle.line.proofs.Puts.{put_then, put_past, put_fits}
use Rattle.dump.specs.BitLine.{bit_figure, bit_line}

pub bits_more : (o p : Out) (bits : List ℕ) (i : ℕ) → i < length bits → p ≡ put_one o (bit_figure (get_or bits i 0)) → put p (bit_line (drop (i + 1) bits)) ≡ put o (bit_line (drop i bits))
unfolding put bit_line
bits_more o p bits i h e = rw (add-one i, drop-cons bits i 0 h, e)

pub bits_past : (bits : List ℕ) (i : ℕ) → i ≡ length bits → bit_line (drop i bits) ≡ line_feed ∷ []
unfolding bit_line
bits_past bits i e = rw (e, drop-length bits)

pub bits_length : (bits : List ℕ) → length (bit_line bits) ≡ length bits + 1
unfolding bit_line
bits_length [] = refl
bits_length (bit ∷ bits) = omega (arith, bits_length bits)

-- ---- the figures in one piece
line_is : (bits : List ℕ) → bit_line bits ≡ map bit_figure bits ++ (line_feed ∷ [])
unfolding bit_line
line_is [] = refl
line_is (bit ∷ bits) = ap (λ (t : List ℕ). bit_figure bit ∷ t) (line_is bits)

-- a part of the buffer that holds the figures, and a line feed behind it
pub piece_put : (xs : List ℕ) (a n m : ℕ) (ys bits : List ℕ) → n ≡ length bits → m ≡ a + length bits → m ≤ length xs → length xs ≤ top → ys ≡ map bit_figure bits
    → put_one (out_of (put_mid a n xs ys) m) line_feed ≡ put (out_of xs a) (bit_line bits)
unfolding put
piece_put xs a n m ys bits e f h k p =
    let t = map bit_figure bits in
    let l : length t ≡ n = length-map bits bit_figure ∙ sym e in
    let mid : put_mid a n xs ys ≡ sets xs a t = rw (p, drop-drop n a xs, sets-eq t xs a (omega (arith, l)), l) (sym (append_assoc (take a xs) t (drop (a + n) xs))) in
    let o : put (out_of xs a) t ≡ out_of (put_mid a n xs ys) m = ap₂ out_of (put_fits xs a t (omega (arith, l)) k ∙ sym mid) (put_past (out_of xs a) t (omega arith) ∙ omega (arith, l)) in
    rw (line_is bits, put_then, o) refl
