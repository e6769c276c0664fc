-- `Rows::give` meets its contract: nothing is written before the room is there. Assumes nothing.
use mathlib.Core.Path.{ap}
use Rattle.std.specs.Prelude.{Err}
use mathlib.Core.Logic.{inl, inr}
use Rattle.sizing.proofs.Outcome.{short, given_all}
use Rattle.sizing.proofs.Rows.give.Goals as goal
use Rattle.sizing.proofs.Rows.give.Goals.{then-clocks-m-via-then-clocks-m, then-clocks-m-via-else-clocks-m+then-links-n}

pub returns-then-clocks-m : goal.returns-then-clocks-m
returns-then-clocks-m c =
    short _ _ _ c.args.self.now.ready c.args.clocks.now c.args.links.now _
    (elim c.then-clocks-m.branch [
      | then-clocks-m-via-then-clocks-m w ↦ inl w.if-clocks-m.true
      | then-clocks-m-via-else-clocks-m+then-links-n w ↦ inr (w.if-clocks-m.false, w.if-links-n.true)
    ])
    (ap Err c.at.ensures)

pub returns : goal.returns
returns c =
    given_all _ _ _ c.args.self.now.ready c.args.clocks.now c.args.links.now c.if-clocks-m.false c.if-links-n.false c.fill_links-rooms.result _ _ c.fill_clocks.ensures
    c.fill_links-rooms.ensures.rooms c.fill_links-rooms.ensures.rows
