-- `put_lines` meets its contract: its parts are put one after another. Assumes nothing.
use mathlib.Core.Path.{◌∙◌}
use Rattle.report.proofs.Texts.{whole_put}
use Rattle.report.proofs.put_lines.Goals as goal

pub returns : goal.returns
returns c = let rows = c.args.rows.now in
    record {
      same = c.put_room.ensures.same ∙ c.put_links-rooms.ensures.lines.same ∙ c.put_clocks.ensures.same;
      put = whole_put rows.states.now rows.nodes.now _ _ _ _ _ c.put_links-rooms.result c.put_clocks.ensures.put c.put_links-rooms.ensures c.put_room.ensures.put;
    }
