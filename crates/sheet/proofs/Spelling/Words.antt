-- Words: what is read is spelled there, and what is spelled there is read. Assumes nothing.
use mathlib.Core.Path.{◌≡◌, refl, ap}
use mathlib.Core.List.{List, [], ◌∷◌}
use Prim.Native.Nat.{ℕ, zero, suc, ◌≤◌, ◌<◌}
use native.Mathlib.Omega.{arith}
use lib.Dec.{leb}
use lib.ListN.{length}
use borrow.Author.Tests.{leb-true, le-leb}
use Rattle.reply.specs.Numbers.{beyond, unknown, no_one}
use Rattle.field.specs.Read.{Read.got}
use Rattle.field.specs.Spelling.{AllBytes, Bytes, Bytes.done}
use Rattle.field.specs.Field.{field_in}
use Rattle.field.proofs.Read.{through, cond_left}
use Rattle.field.proofs.Spelling.{join, end, split, first}
use Rattle.field.proofs.Fields.{byte_in_bytes, byte_in_got}
use Rattle.envelope.specs.Word.{ones_in, LegalWord}
use Rattle.expression.specs.Expression.{Word, spell_word}
use Rattle.sheet.specs.Sheet.{Every, WordRow}
use Rattle.sheet.specs.Reader.{bits_at, word_at}
use Rattle.sheet.proofs.Spelling.Rows.{same_got}

-- ---- bits
pub bits_reads : (s : List ℕ) → AllBytes s → (n a : ℕ) (bs : List ℕ) (c : ℕ) → a ≤ length s → bits_at n s a ≡ got bs c → (length bs ≡ n) × Every (λ b. b < 2) bs × Bytes s a bs c
unfolding bits_at
bits_reads s bytes zero a bs c l h =
    same_got (λ (bs : List ℕ) (c : ℕ). (length bs ≡ 0) × Every (λ b. b < 2) bs × Bytes s a bs c) h (refl, tt, done l)
bits_reads s bytes (suc n) a bs c l h =
    let r = through (field_in 1 0 2 unknown s a) _ bs c h in
    let b = byte_in_bytes s bytes 0 2 unknown a r.0 r.1 r.2 in
    let q = through (bits_at n s r.1) _ bs c r.3 in
    let i = bits_reads s bytes n r.1 q.0 q.1 (end b.2).1 q.2 in
    same_got (λ (bs : List ℕ) (c : ℕ). (length bs ≡ suc n) × Every (λ b. b < 2) bs × Bytes s a bs c) q.3 (ap suc i.0, (b.1, i.1), join b.2 i.2)

bits_read : (s : List ℕ) (bs : List ℕ) (a c : ℕ) → Every (λ b. b < 2) bs → Bytes s a bs c → bits_at (length bs) s a ≡ got bs c
unfolding bits_at
bits_read s [] a c h (done p) = refl
bits_read s (x ∷ bs) a c h b =
    let r = first b in
    rw (byte_in_got s 0 2 unknown a x (suc a) (omega arith) h.0 (omega arith) r.0, bits_read s bs (suc a) c h.1 r.1)

-- ---- a word
pub word_reads : (s : List ℕ) → AllBytes s → (a : ℕ) (w : Word) (c : ℕ) → word_at s a ≡ got w c → WordRow w × Bytes s a (spell_word w) c
unfolding word_at
word_reads s bytes a w c h =
    let r₁ = through (field_in 1 0 65 beyond s a) _ w c h in
    let r₂ = through (field_in 1 1 65 beyond s r₁.1) _ w c r₁.3 in
    let r₃ = through (bits_at r₁.0 s r₂.1) _ w c r₂.3 in
    let r₄ = through (bits_at r₂.0 s r₃.1) _ w c r₃.3 in
    let p = cond_left (leb 1 (ones_in r₄.0)) _ no_one r₃.1 w c r₄.3 in
    let b₁ = byte_in_bytes s bytes 0 65 beyond a r₁.0 r₁.1 r₁.2 in
    let b₂ = byte_in_bytes s bytes 1 65 beyond r₁.1 r₂.0 r₂.1 r₂.2 in
    let b₃ = bits_reads s bytes r₁.0 r₂.1 r₃.0 r₃.1 (end b₂.2).1 r₃.2 in
    let b₄ = bits_reads s bytes r₂.0 r₃.1 r₄.0 r₄.1 (end b₃.2).1 r₄.2 in
    let legal : LegalWord r₃.0 r₄.0 = record { prefix_most = omega (arith, b₁.1, b₃.0); period_most = omega (arith, b₂.1, b₄.0); a_one = leb-true 1 (ones_in r₄.0) p.0 } in
    let l₁ : Bytes s a (length r₃.0 ∷ []) r₁.1 = rw b₃.0 b₁.2 in
    let l₂ : Bytes s r₁.1 (length r₄.0 ∷ []) r₂.1 = rw b₄.0 b₂.2 in
    same_got (λ (x : Word) (d : ℕ). WordRow x × Bytes s a (spell_word x) d) p.1 (record { word = legal; prefix_bits = b₃.1; period_bits = b₄.1 }, join l₁ (join l₂ (join b₃.2 b₄.2)))

-- a period with a 1 is not empty
period_least : (v : List ℕ) → 1 ≤ ones_in v → 1 ≤ length v
unfolding ones_in
period_least [] h = absurd (omega arith)
period_least (x ∷ v) h = omega arith

pub word_read : (s : List ℕ) (a : ℕ) (w : Word) (c : ℕ) → WordRow w → Bytes s a (spell_word w) c → word_at s a ≡ got w c
unfolding word_at
word_read s a w c h b =
    let m : LegalWord w.prefix w.period = h.word in
    let b₁ = first b in
    let b₂ = first b₁.1 in
    let b₃ = split w.prefix w.period b₂.1 in
    let f₁ = byte_in_got s 0 65 beyond a (length w.prefix) (suc a) (omega arith) (omega (arith, m.prefix_most)) (omega arith) b₁.0 in
    let f₂ = byte_in_got s 1 65 beyond (suc a) (length w.period) (suc (suc a)) (period_least w.period m.a_one) (omega (arith, m.period_most)) (omega arith) b₂.0 in
    rw (f₁, f₂, bits_read s w.prefix (suc (suc a)) b₃.0 h.prefix_bits b₃.1, bits_read s w.period b₃.0 c h.period_bits b₃.2, le-leb 1 (ones_in w.period) m.a_one)
