-- `put_links` meets its contract: the links so far are put and summed up. Assumes nothing.
use mathlib.Core.Path.{◌≡◌, refl, ap, ◌∙◌}
use Prim.Native.Nat.{◌<◌}
use native.Mathlib.Omega.{arith}
use lib.ListN.{length}
use Rattle.expression.proofs.Lookup.{lookup_at}
use Rattle.sizing.specs.Inner.Rows.{rooms_over}
use Rattle.sizing.proofs.Written.{summed_none, summed_more, rows_all, take_next}
use Rattle.report.proofs.LinkRows.{going_more, going_all}
use Rattle.report.proofs.put_links.Goals as goal

pub loop-i-init : goal.loop-i-init
loop-i-init c = record { same = refl; going = refl; summed = summed_none _ _ _ _ c.default-rooms.ensures }

pub row-r-requires : goal.row-r-requires
row-r-requires c = c.args.rows.now.ready.there _ _ (lookup_at _ c.loop-i.i _ (omega arith) c.ends-item.is)

pub loop-i-preserved : goal.loop-i-preserved
loop-i-preserved c =
    let rows = c.args.rows.now in
    let more : c.loop-i.i < length rows.ends.now = omega arith in
    let next = take_next rows.ends.now c.loop-i.i c.ends-item.result more c.ends-item.is in
    record {
      same = c.put_link.ensures.same ∙ c.loop-i.invariant.same;
      going = going_more rows.nodes.now rows.states.now rows.ends.now _ _ _ _ c.loop-i.invariant.going more _ c.ends-item.is c.row-r.result c.row-r.ensures.row c.put_link.ensures.put;
      summed = summed_more _ _ _ _ _ _ c.loop-i.invariant.summed _ c.row-r.result c.row-r.ensures.small next c.row-r.ensures.row c.plus-rooms.ensures;
    }

pub returns : goal.returns
returns c =
    let rows = c.args.rows.now in
    let done : c.loop-i.i ≡ length rows.ends.now = omega arith in
    record {
      lines = record {
        same = c.loop-i.invariant.same;
        put = going_all rows.nodes.now rows.states.now rows.ends.now _ _ _ c.loop-i.invariant.going done;
      };
      sums = c.loop-i.invariant.summed.sums ∙ ap rooms_over (rows_all rows.nodes.now rows.states.now rows.ends.now c.loop-i.i (omega (arith, done)));
    }
