use Rattle.std.proofs.Common.{take}
use Rattle.std.specs.List.{AllZip}
use Rattle.wit_run.specs.Task.{EndsBy, code_in}
use Rattle.wit_run.proofs.running.CutCircuit.ends_of.Given as goal

abbrev pub invariant-loop-outcome : goal.invariant-loop-outcome
invariant-loop-outcome l =
    AllZip (EndsBy (code_in l.self)) (take l.outcome-index l.outcomes) l.ends.items
