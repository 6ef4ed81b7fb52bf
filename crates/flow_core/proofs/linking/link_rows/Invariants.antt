use Rattle.flow_core.specs.Drawn.{AreLinked}
use Rattle.flow_core.proofs.linking.link_rows.Given as goal

abbrev pub invariant-loop-strand : goal.invariant-loop-strand
invariant-loop-strand l = AreLinked l.marks l.reads l.preds.items l.succs l.strand
