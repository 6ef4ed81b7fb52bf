use Rattle.std.proofs.Common.{◌≡◌, map, length, take}
use Rattle.flow_core.proofs.state.missing_counts.Given as goal

abbrev pub invariant-loop-strand : goal.invariant-loop-strand
invariant-loop-strand l = l.counts.items ≡ map length (take l.strand l.graph.preds)
