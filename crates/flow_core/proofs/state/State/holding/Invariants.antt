use Rattle.std.proofs.Common.{◌≡◌, drop}
use Rattle.flow_core.specs.Events.{first_held}
use Rattle.flow_core.proofs.state.State.holding.Given as goal

abbrev pub invariant-loop-strand : goal.invariant-loop-strand
invariant-loop-strand l = first_held l.worker l.strand (drop l.strand l.self.phase)
    ≡ first_held l.worker 0 l.self.phase
