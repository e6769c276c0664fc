-- Laws of texts that are put one after another. Assumes nothing.
use mathlib.Core.Path.{◌≡◌, refl, sym, ap, ◌∙◌}
use mathlib.Core.List.{List, [], ◌∷◌, ◌++◌}
use Prim.Native.Nat.{ℕ, suc, ◌+◌, ◌≤◌, ◌<◌, min}
use native.Mathlib.Numerals.{add-one}
use native.Mathlib.Omega.{arith}
use lib.ListN.{length, length-set, set, get_or, drop, drop_of_length-le}
use lib.Seq.{sets, drop-cons}
use Rattle.line.specs.Text.{Out, out_of, top, blank, line_feed, put_one, put, fields_of, line_of, put_field, put_fields, put_line, Put}

pub put_then : (o : Out) (t u : List ℕ) → put o (t ++ u) ≡ put (put o t) u
unfolding put
put_then o [] u = refl
put_then o (b ∷ t) u = put_then (put_one o b) t u

put_fields_lem : (o : Out) (ts : List (List ℕ)) → put_fields o ts ≡ put o (fields_of ts)
unfolding put
put_fields_lem o [] = refl
put_fields_lem o (t ∷ ts) = put_fields_lem (put_field o t) ts ∙ sym (put_then (put_one o blank) t (fields_of ts))

-- a line that is put field by field is put
pub put_line_lem : (o : Out) (t : List ℕ) (ts : List (List ℕ)) → put_line o t ts ≡ put o (line_of t ts)
unfolding put line_of
put_line_lem o t ts =
    ap (λ (p : Out). put_one p line_feed) (put_fields_lem (put o t) ts) ∙ sym (put_then (put o t) (fields_of ts) (line_feed ∷ []))
    ∙ sym (put_then o t (fields_of ts ++ (line_feed ∷ [])))

-- one line more of a text
pub put_more : (o p : Out) (t : List ℕ) (ts : List (List ℕ)) (left rest : List ℕ) → left ≡ line_of t ts ++ rest → p ≡ put_line o t ts → put p rest ≡ put o left
put_more o p t ts left rest e h = rw (e, put_then, ← put_line_lem, h)

put_kept : (o : Out) (t : List ℕ) → length (put o t).bytes ≡ length o.bytes
unfolding put put_one
put_kept o [] = refl
put_kept o (b ∷ t) = put_kept (put_one o b) t ∙ length-set o.bytes o.at b

pub put_length : (xs ys t : List ℕ) (a r : ℕ) → Put xs a t ys r → length ys ≡ length xs
put_length xs ys t a r p = ap (λ (o : Out). length o.bytes) p ∙ put_kept (out_of xs a) t

-- what is left, put from here, gives what all gives: so the buffer kept its length
pub going_length : (o p : Out) (t u : List ℕ) → put o t ≡ put p u → length o.bytes ≡ length p.bytes
going_length o p t u e = sym (put_kept o t) ∙ ap (λ (q : Out). length q.bytes) e ∙ put_kept p u

-- one byte more of a text
pub put_next : (o p : Out) (t : List ℕ) (i : ℕ) → i < length t → p ≡ put_one o (get_or t i 0) → put p (drop (i + 1) t) ≡ put o (drop i t)
unfolding put
put_next o p t i h e = rw (add-one i, drop-cons t i 0 h, e)

-- none is left
pub put_done : (o : Out) (t : List ℕ) (i : ℕ) → length t ≤ i → o ≡ put o (drop i t)
unfolding put
put_done o t i h = rw (drop_of_length-le t h)

-- ---- where the text ends, and what the buffer holds where it fits
pub put_past : (o : Out) (t : List ℕ) → o.at ≤ top → (put o t).at ≡ min (o.at + length t) top
unfolding put put_one
put_past o [] h = omega arith
put_past o (b ∷ t) h = put_past (put_one o b) t (omega arith) ∙ omega arith

pub put_at : (xs ys t : List ℕ) (a r : ℕ) → a ≤ top → Put xs a t ys r → r ≡ min (a + length t) top
put_at xs ys t a r h p = ap (λ (o : Out). o.at) p ∙ put_past (out_of xs a) t h

pub put_fits : (xs : List ℕ) (a : ℕ) (t : List ℕ) → a + length t ≤ length xs → length xs ≤ top → (put (out_of xs a) t).bytes ≡ sets xs a t
unfolding put put_one
put_fits xs a [] h k = refl
put_fits xs a (b ∷ t) h k =
    let next : min (a + 1) top ≡ suc a = omega arith in
    let kept = length-set xs a b in
    ap (λ (n : ℕ). (put (out_of (set xs a b) n) t).bytes) next ∙ put_fits (set xs a b) (suc a) t (omega arith) (omega arith)
