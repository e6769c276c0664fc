-- Clocks: what is read is spelled there and has its node, and what is spelled there and has one is read. Assumes nothing.
use mathlib.Core.Path.{◌≡◌, sym}
use mathlib.Core.List.{List, map}
use Prim.Native.Nat.{ℕ, suc, ◌+◌, ◌≤◌}
use native.Mathlib.Omega.{arith}
use lib.ListN.{length, length-map}
use Rattle.reply.specs.Numbers.{unknown}
use Rattle.field.specs.Read.{Read.got, Read.refused}
use Rattle.field.specs.Spelling.{AllBytes, Bytes}
use Rattle.field.specs.Field.{field_in}
use Rattle.field.proofs.Read.{through}
use Rattle.field.proofs.Spelling.{join, first}
use Rattle.field.proofs.Fields.{byte_in_bytes, byte_in_got}
use Rattle.envelope.specs.declared.Node.{Node}
use Rattle.expression.specs.Expression.{Clock, depth_most, spell_clock}
use Rattle.expression.specs.Evaluate.{Worth.good, Worth.fault, evaluate}
use Rattle.expression.specs.Reader.{expr_at}
use Rattle.expression.specs.Spelled.{indexes, InRange, Spelled}
use Rattle.expression.specs.Blame.{blame}
use Rattle.expression.proofs.Reader.{reads, spelled_read}
use Rattle.expression.proofs.Blame.{fault_read}
use Rattle.sheet.specs.Sheet.{ClockRow}
use Rattle.sheet.specs.Reader.{clock_at}
use Rattle.sheet.specs.SheetRead.{ClockNode, clock_of, node_of_clock}
use Rattle.sheet.proofs.Spelling.Rows.{same_got}

-- a clock that is legal, with the node that the rules give it after those of rows
pub record ClockMade (ws : List Node) (rows : List ClockNode) (r : ClockNode) : Type 0 where
  pub legal : ClockRow r.clock
  pub value : evaluate ws (map node_of_clock rows) r.clock.expr ≡ good r.node

pub clock_reads : (s : List ℕ) → AllBytes s → (ws : List Node) (rows : List ClockNode) (a : ℕ) (r : ClockNode) (c : ℕ) → clock_at s ws rows a ≡ got r c
    → ClockMade ws rows r × Bytes s a (spell_clock (clock_of r)) c
unfolding clock_at
clock_reads s bytes ws rows a r c h =
    let p = through (field_in 1 0 2 unknown s a) _ r c h in
    let q = through (expr_at depth_most s ws (map node_of_clock rows) p.1) _ r c p.3 in
    let b = byte_in_bytes s bytes 0 2 unknown a p.0 p.1 p.2 in
    let t = reads s bytes ws (map node_of_clock rows) depth_most p.1 q.0 q.1 q.2 in
    same_got (λ (x : ClockNode) (d : ℕ). ClockMade ws rows x × Bytes s a (spell_clock (clock_of x)) d) q.3 (record { legal = record { state_bit = b.1; shallow = t.shallow }; value = t.value }, join b.2 t.bytes)

module _ (s : List ℕ) (ws : List Node) (rows : List ClockNode) (a c : ℕ) (hw : length ws ≤ indexes) (hr : length rows ≤ indexes) where
  hn : length (map node_of_clock rows) ≤ indexes
  hn = omega (arith, length-map rows node_of_clock)

  pub clock_read : (r : ClockNode) → ClockMade ws rows r → Bytes s a (spell_clock (clock_of r)) c → clock_at s ws rows a ≡ got r c
  unfolding clock_at
  clock_read r h b =
      let q = first b in
      let t : Spelled s ws (map node_of_clock rows) depth_most (suc a) r.clock.expr r.node c = record { shallow = h.legal.shallow; value = h.value; bytes = q.1 } in
      rw (
        byte_in_got s 0 2 unknown a r.clock.state (suc a) (omega arith) h.legal.state_bit (omega arith) q.0,
        spelled_read s ws (map node_of_clock rows) hw hn depth_most (suc a) r.clock.expr r.node c t,
      )

  -- one that the rules refuse is refused at the tag of the node to blame
  pub clock_refused : (k : Clock) (number : ℕ) → ClockRow k → InRange (length ws) (length rows) k.expr → evaluate ws (map node_of_clock rows) k.expr ≡ fault number
      → Bytes s a (spell_clock k) c → clock_at s ws rows a ≡ refused number (suc a + blame ws (map node_of_clock rows) k.expr)
  unfolding clock_at
  clock_refused k number h i v b =
      let q = first b in
      let n : length rows ≡ length (map node_of_clock rows) = sym (length-map rows node_of_clock) in
      rw (
        byte_in_got s 0 2 unknown a k.state (suc a) (omega arith) h.state_bit (omega arith) q.0,
        fault_read s ws (map node_of_clock rows) hw hn k.expr depth_most (suc a) number c (rw n at i) h.shallow q.1 v,
      )
