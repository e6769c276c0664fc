-- Links: what is read is spelled there, and what is spelled there is read. Assumes nothing.
use mathlib.Core.Path.{◌≡◌}
use mathlib.Core.List.{List}
use Prim.Native.Nat.{ℕ, ◌≤◌}
use native.Mathlib.Omega.{arith}
use Rattle.reply.specs.Numbers.{absent}
use Rattle.field.specs.Read.{Read.got}
use Rattle.field.specs.Spelling.{bytes_of, AllBytes, Bytes}
use Rattle.field.specs.Field.{field_in}
use Rattle.field.proofs.Read.{through}
use Rattle.field.proofs.Spelling.{join, split, limit2}
use Rattle.field.proofs.Fields.{field_in_bytes, field_in_got}
use Rattle.expression.specs.Spelled.{indexes}
use Rattle.sheet.specs.Sheet.{Link, spell_link, LinkRow}
use Rattle.sheet.specs.Reader.{link_at}
use Rattle.sheet.proofs.Spelling.Rows.{same_got}

-- between n clocks, after those of xs
pub link_reads : (s : List ℕ) → AllBytes s → (n : ℕ) (xs : List Link) (a : ℕ) (l : Link) (c : ℕ) → link_at s n xs a ≡ got l c → LinkRow n l × Bytes s a (spell_link l) c
unfolding link_at
link_reads s bytes n xs a l c h =
    let p = through (field_in 2 0 n absent s a) _ l c h in
    let q = through (field_in 2 0 n absent s p.1) _ l c p.3 in
    let b = field_in_bytes s bytes 2 0 n absent a p.0 p.1 p.2 in
    let b' = field_in_bytes s bytes 2 0 n absent p.1 q.0 q.1 q.2 in
    same_got (λ (x : Link) (d : ℕ). LinkRow n x × Bytes s a (spell_link x) d) q.3 (record { producer_there = b.1; consumer_there = b'.1 }, join b.3 b'.3)

pub link_read : (s : List ℕ) (n : ℕ) (xs : List Link) (a : ℕ) (l : Link) (c : ℕ) → n ≤ indexes → LinkRow n l → Bytes s a (spell_link l) c → link_at s n xs a ≡ got l c
unfolding link_at
link_read s n xs a l c m h b =
    let p = split (bytes_of 2 l.producer) (bytes_of 2 l.consumer) b in
    rw (
      field_in_got s 2 0 n absent a l.producer p.0 (omega arith) h.producer_there (omega (arith, limit2, h.producer_there)) p.1,
      field_in_got s 2 0 n absent p.0 l.consumer c (omega arith) h.consumer_there (omega (arith, limit2, h.consumer_there)) p.2,
    )
