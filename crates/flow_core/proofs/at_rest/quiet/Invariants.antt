use Rattle.std.proofs.Common.{ℕ, ◌<◌, get_or}
use Rattle.flow_core.specs.declared.state.Phase.TheVariants.{Waiting}
use Rattle.flow_core.specs.Quiet.{IsAtRest}
use Rattle.flow_core.proofs.at_rest.quiet.Given as goal

abbrev pub invariant-loop-strand : goal.invariant-loop-strand
invariant-loop-strand l = (k : ℕ) → k < l.strand
    → IsAtRest (get_or l.state.phase k Waiting) (get_or l.state.missing k 0)
