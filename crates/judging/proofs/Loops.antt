-- One turn of each loop, as a law on lists.
-- Assumes nothing.
use Rattle.std.proofs.Common.{◌≡◌, ℕ, ◌+◌, ◌<◌, ◌≤◌, max, true, leb, List, [], ◌∷◌, length, get_or, drop, ℤ, refl, ap, ◌∙◌, add-one, arith, drop-cons, w64, to_z, of_z, le-leb, leb-true}
use Rattle.std.proofs.lemmas.List.Sums.{prefix_len_passes}
use Rattle.envelope.specs.declared.Envelope.{Envelope}
use Rattle.envelope.specs.Envelope.{Taken}
use Rattle.judging.specs.Bytes.{longest, plain}
use Rattle.judging.specs.Inner.Scan.{Near, may_at, offset_after, scanned, largest_from}
use Rattle.judging.proofs.Offsets.{near_on, near_held}

-- ---- the bytes that come before the first that is no bit
pub plain_before : (p : List ℕ) (t : ℕ) → t < plain p → get_or p t 0 ≤ 1
plain_before p t h = leb-true (get_or p t 0) 1 (prefix_len_passes (λ (b : ℕ). leb b 1) p t 0 h)

-- ---- the largest byte: where it is at most 1, all bytes are bits
pub largest_plain : (p : List ℕ) (m : ℕ) → largest_from m p ≤ 1 → (m ≤ 1) × (plain p ≡ length p)
largest_plain [] m h = (h, refl)
largest_plain (b ∷ p) m h =
    let ih = largest_plain p (max m b) h in
    let k : b ≤ 1 = omega (arith, ih.0) in
    (omega (arith, ih.0), rw (le-leb b 1 k) (omega (arith, ih.1)))

-- ---- the scan and the fill carry the offset d along: after the bit b the machine has r
module _ (e : Envelope) (t : Taken e) (i : ℕ) (d : ℤ) (b : ℕ) (r : ℤ) (v : Near i d) (h : i < longest) (is_on : r ≡ offset_after e d b) where
  near_next : Near (i + 1) (offset_after e d b)
  near_next = rw add-one (near_on e t i d b v)

  pub on_held : to_z w64 (of_z w64 r) ≡ offset_after e d b
  on_held = ap (λ (z : ℤ). to_z w64 (of_z w64 z)) is_on ∙ near_held (i + 1) (offset_after e d b) (omega arith) near_next

  pub near_turn : Near (i + 1) (to_z w64 (of_z w64 r))
  near_turn = rw on_held near_next

-- from place j on, where i bits were before that; the machine has the offset s after the bit there
pub scan_turn : (e : Envelope) (p : List ℕ) (i j : ℕ) (d : ℤ) → j < length p → (s : ℤ) → s ≡ offset_after e d (get_or p j 0) → may_at e d (get_or p j 0) ≡ true → scanned e i d (drop j p) ≡ scanned e (i + 1) s (drop (j + 1) p)
scan_turn e p i j d h s is_on k = rw (is_on, add-one, add-one, drop-cons p j 0 h, k)
