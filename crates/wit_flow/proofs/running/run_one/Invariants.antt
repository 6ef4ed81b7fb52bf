use Rattle.wit_flow.proofs.Whole.{IsAt}
use Rattle.wit_flow.proofs.running.run_one.Given as goal

abbrev pub invariant-loop-at : goal.invariant-loop-at
invariant-loop-at l = IsAt l.flow l.start l.fuel l.at l.cells
