use Rattle.flow_core.proofs.Marks.{Claims}
use Rattle.flow_core.proofs.drawing.claim.Given as goal

abbrev pub invariant-loop-strand : goal.invariant-loop-strand
invariant-loop-strand l = Claims l.marks l.writes l.strand
