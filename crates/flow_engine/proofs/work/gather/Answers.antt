use Rattle.std.proofs.Common.{sym, ◌∙◌, ap}
use Rattle.flow_core.specs.Events.{hold}
use Rattle.flow_engine.proofs.Orders.{read_in}
use Rattle.flow_engine.proofs.work.gather.Goals as goal

pub read-requires-clause-reads : goal.read-requires-clause-reads
read-requires-clause-reads c κs = (
  hold c.args.strand 0 0,
  c.loop-i.invariant.held,
  read_in c.reads_of-cells.result.now c.graph-graph.result.now c.args.board.now.flow.net
      c.args.strand c.loop-i.i
      c.reads_of-cells.ensures (c.graph-graph.ensures ∙ sym (ap (λ f. f.net) c.requires.flow))
      c.loop-i-test.true,
)
