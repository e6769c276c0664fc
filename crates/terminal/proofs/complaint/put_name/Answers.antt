-- `put_name` meets its contract: none of the bytes that are shown is left. Assumes nothing.
use Rattle.std.proofs.Common.{ap, ◌∙◌, ℕ, List, map, take, arith}
use Rattle.line.specs.Text.{put}
use Rattle.line.specs.Writing.{out_in}
use Rattle.terminal.specs.Shown.{shown_byte}
use Rattle.terminal.proofs.Names.{shown_done, shown_first}
use Rattle.terminal.proofs.complaint.put_name.Goals as goal

pub returns : goal.returns
returns c =
    record {
      same = c.loop-b.invariant.same;
      put =
          shown_done (out_in c.loop-b.out) (take c.min.result c.args.name.now) c.loop-b.b-index (omega arith)
          ∙ c.loop-b.invariant.going
          ∙ ap (λ (t : List ℕ). put (out_in c.args.out.now) (map shown_byte t)) (shown_first c.args.name.now c.min.result c.min.ensures);
    }
