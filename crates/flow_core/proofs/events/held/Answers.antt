use Rattle.flow_core.proofs.Steps.{known_if}
use Rattle.flow_core.proofs.events.held.Goals as goal

pub returns-clause-known : goal.returns-clause-known
returns-clause-known c = known_if c.args.graph.now c.args.state.now c.args.worker c.holding.result
    c.requires c.holding.ensures
