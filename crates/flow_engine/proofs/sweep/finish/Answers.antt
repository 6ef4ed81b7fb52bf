use Rattle.std.proofs.Common.{◌∙◌}
use Rattle.flow_engine.proofs.Orders.{ends}
use Rattle.flow_engine.proofs.sweep.finish.Goals as goal

pub returns : goal.returns
returns c = ends c.args.answers.now c.facts.ensures c.args.cells.now c.of.result c.requires
    (c.of.ensures ∙ c.in_ok-values.ensures)
