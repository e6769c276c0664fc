-- A name, put in a loop, from byte i on. Assumes nothing.
use mathlib.Core.Path.{◌≡◌, ap, ◌∙◌}
use mathlib.Core.List.{List, map}
use Prim.Native.Nat.{ℕ, ◌+◌, ◌≤◌, ◌<◌, min}
use native.Mathlib.Numerals.{add-one}
use native.Mathlib.Omega.{arith}
use lib.ListN.{length, get_or, take, drop, drop_of_length-le}
use lib.Seq.{drop-cons}
use Rattle.std.proofs.lemmas.List.{take_min}
use Rattle.line.specs.Text.{Out, put, put_one}
use Rattle.terminal.specs.Shown.{shown_byte}

pub shown_more : (o p : Out) (name : List ℕ) (i : ℕ) → i < length name → p ≡ put_one o (shown_byte (get_or name i 0)) → put p (map shown_byte (drop (i + 1) name)) ≡ put o (map shown_byte (drop i name))
unfolding put
shown_more o p name i h e = rw (add-one i, drop-cons name i 0 h, e)

pub shown_done : (o : Out) (name : List ℕ) (i : ℕ) → length name ≤ i → o ≡ put o (map shown_byte (drop i name))
unfolding put
shown_done o name i h = rw (drop_of_length-le name h)

-- the bytes that are shown
pub shown_first : (name : List ℕ) (m : ℕ) → m ≡ min (length name) 4096 → take m name ≡ take 4096 name
shown_first name m e =
    let same : m ≡ min 4096 (length name) = omega (arith, e) in
    ap (λ (k : ℕ). take k name) same ∙ take_min 4096 name
