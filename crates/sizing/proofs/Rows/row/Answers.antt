-- `Rows::row` meets its contract: both ends of the link are clocks of the table. Assumes nothing.
use mathlib.Core.Path.{◌≡◌, sym, ap, ◌∙◌}
use mathlib.Core.Option.{some}
use native.Mathlib.Omega.{arith}
use lib.ListN.{get_elem?}
use Rattle.expression.proofs.Lookup.{lookup_at}
use Rattle.sizing.specs.Inner.Rows.{row_at}
use Rattle.sizing.proofs.LinkRows.{verdict_small, row_is}
use Rattle.sizing.proofs.Rows.row.Goals as goal

pub returns : goal.returns
returns c =
    let there = c.requires in
    let p = c.producer-p.ensures in
    let q = c.consumer-q.ensures in
    let many = c.args.self.now.ready.many in
    let x : get_elem? c.args.self.now.nodes.now c.producer-p.result ≡ some c.node-producer.result =
    lookup_at c.args.self.now.nodes.now c.producer-p.result c.index-self-p.result (omega (arith, p, there, many)) c.index-self-p.is ∙ ap some (c.index-self-p.is ∙ sym c.node-producer.ensures.node) in
    let y : get_elem? c.args.self.now.nodes.now c.consumer-q.result ≡ some c.node-consumer.result =
    lookup_at c.args.self.now.nodes.now c.consumer-q.result c.index-self-q.result (omega (arith, q, there, many)) c.index-self-q.is ∙ ap some (c.index-self-q.is ∙ sym c.node-consumer.ensures.node) in
    record {
      row = row_is c.args.self.now.nodes.now c.args.self.now.states.now (record { producer = c.producer-p.result; consumer = c.consumer-q.result }) _ _ _ _ x y c.judge-verdict.ensures c.state_of.ensures
          ∙ ap (row_at c.args.self.now.nodes.now c.args.self.now.states.now) (λ k. record { producer = p k; consumer = q k });
      small = rw c.judge-verdict.ensures (verdict_small _ _ c.node-producer.ensures.taken c.node-consumer.ensures.taken);
    }
