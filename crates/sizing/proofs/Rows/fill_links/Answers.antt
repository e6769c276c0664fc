-- `Rows::fill_links` meets its contract: the rows so far are written and summed up. Assumes nothing.
use mathlib.Core.Path.{◌≡◌, refl}
use mathlib.Core.List.{◌∷◌, [], ◌++◌}
use Prim.Native.Nat.{◌+◌, ◌<◌}
use native.Mathlib.Omega.{arith}
use lib.ListN.{length, take}
use Rattle.expression.proofs.Lookup.{lookup_at}
use Rattle.sizing.specs.WorkOut.{link_numbers}
use Rattle.sizing.proofs.Written.{written_none, written_more, summed_none, rows_more, summed_more, take_next}
use Rattle.sizing.proofs.Rows.fill_links.Goals as goal
use Rattle.sizing.proofs.Rows.fill_links.Goals.{After-ends-item, After-loop-i}

-- the links gone over, with the next one
next : (c : After-ends-item) → c.loop-i.i < length c.args.self.now.ends.now → take (c.loop-i.i + 1) c.args.self.now.ends.now ≡ take c.loop-i.i c.args.self.now.ends.now ++ (c.ends-item.result ∷ [])
next c more = take_next c.args.self.now.ends.now c.loop-i.i c.ends-item.result more c.ends-item.is

pub loop-i-init : goal.loop-i-init
loop-i-init c = record { summed = summed_none _ _ _ _ c.default-rooms.ensures; written = written_none link_numbers 3 (λ r. refl) _ }

pub row-r-requires : goal.row-r-requires
row-r-requires c = c.args.self.now.ready.there _ _ (lookup_at _ c.loop-i.i _ (omega arith) c.ends-item.is)

pub loop-i-preserved : goal.loop-i-preserved
loop-i-preserved c = let more = next (goal.at.loop-i-preserved c).After-ends-item (omega arith) in record {
  summed = summed_more _ _ _ _ _ _ c.loop-i.invariant.summed _ c.row-r.result c.row-r.ensures.small more c.row-r.ensures.row c.plus-rooms.ensures;
  written = rw (rows_more c.args.self.now.nodes.now c.args.self.now.states.now c.args.self.now.ends.now c.loop-i.i _ c.row-r.result more c.row-r.ensures.row)
      (written_more link_numbers 3 (λ q. refl) _ _ _ _ _ c.loop-i.invariant.written c.row-r.result (omega arith) c.store_row.ensures);
}
