use Rattle.wit_flow.proofs.PartRuns.{IsRunning}
use Rattle.wit_flow.proofs.running.run_strand_in.Given as goal

abbrev pub invariant-loop-at : goal.invariant-loop-at
invariant-loop-at l = IsRunning l.flow l.fuel l.strand l.reads l.at l.written.items
