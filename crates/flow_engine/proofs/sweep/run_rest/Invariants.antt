use Rattle.flow_engine.specs.Sweep.{HasCome}
use Rattle.flow_engine.proofs.sweep.run_rest.Given as goal

abbrev pub invariant-loop-strand : goal.invariant-loop-strand
invariant-loop-strand l = HasCome l.answers l.strand l.cells
