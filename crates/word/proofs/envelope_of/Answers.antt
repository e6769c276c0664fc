-- `word::envelope_of` meets its contract.
-- Assumes nothing.
use mathlib.Core.Path.{◌≡◌, refl, sym}
use mathlib.Core.List.{List}
use Prim.Native.Nat.{ℕ, ◌-◌, ◌/◌}
use native.Mathlib.Omega.{arith}
use lib.IntN.{ℤ}
use lib.ListN.{length, take, drop, length-drop, take-append-drop}
use Rattle.whole.specs.Euclid.{gcd_of}
use Rattle.whole.proofs.Machine.{told}
use Rattle.envelope.specs.declared.Envelope.{Envelope}
use Rattle.word.specs.declared.Span.{Span}
use Rattle.envelope.specs.Envelope.{result_of}
use Rattle.envelope.specs.Word.{bit_at, ones_in, word_of}
use Rattle.word.specs.Inner.Span.{span_of}
use Rattle.word.proofs.Spans.{word_span}
use Rattle.word.proofs.envelope_of.Goals as goal

-- what `result` is handed makes the definition's envelope
made : (xs : List ℕ) (p m g l n : ℕ) (s : Span) (k K : ℤ) (r : Envelope) → ones_in (drop p xs) ≡ m → g ≡ gcd_of (length xs - p) m → l ≡ (length xs - p) / g → n ≡ m / g → s ≡ span_of (bit_at xs) l n (length xs) → k ≡ s.k → K ≡ s.K → r ≡ result_of k K l n → r ≡ word_of (take p xs) (drop p xs)
made xs p m g l n s k K r a b d e f h i j =
    let q : length (drop p xs) ≡ length xs - p = length-drop p xs in
    rw (j, h, i, f)
    (sym (word_span (take p xs) (drop p xs) xs l n (take-append-drop p xs) (rw (a, q, ← b) (sym d)) (rw (a, q, ← b) (sym e))))

pub returns : goal.returns
returns c = made c.args.bits.now c.args.prefix _ _ _ _ c.offset_span-s.result _ _ _
    c.requires.ones_nonzero.2 c.gcd-g.ensures refl refl c.offset_span-s.ensures
    (told _ (omega arith))
    (told _ (omega arith))
    c.result.ensures
