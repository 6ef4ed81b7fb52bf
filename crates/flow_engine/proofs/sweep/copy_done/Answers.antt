use Rattle.std.proofs.Common.{◌∙◌}
use Rattle.flow_engine.proofs.Orders.{writes_are, copied_near, done_comes}
use Rattle.flow_engine.proofs.sweep.copy_done.Goals as goal

pub copied-requires : goal.copied-requires
copied-requires c =
    let at = writes_are c.writes_of-writes.result.now c.graph-graph.result.now
    c.args.answers.now.plan.graph c.args.strand c.writes_of-writes.ensures
    c.graph-graph.ensures in
    copied_near c.args.answers.now c.facts.ensures c.args.strand c.requires.near c.args.words.now
    c.requires.closed c.writes_of-writes.result.now at

pub returns : goal.returns
returns c =
    let at = writes_are c.writes_of-writes.result.now c.graph-graph.result.now
    c.args.answers.now.plan.graph c.args.strand c.writes_of-writes.ensures
    c.graph-graph.ensures in
    done_comes c.args.answers.now c.facts.ensures c.args.strand c.requires.near c.args.words.now
    c.requires.closed c.requires.below c.requires.done
    c.args.cells.now c.put.new.held_cells c.writes_of-writes.result.now c.as_slice.result.now
    c.requires.come at
    (c.as_slice.ensures.value ∙ c.in_ok-values.ensures) c.put.ensures.wide c.put.ensures.put
