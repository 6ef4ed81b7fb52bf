use Rattle.wit_code.specs.Table.{start_of}
use Rattle.wit_code.proofs.Ends.{ends_so, one_outcome}
use Rattle.wit_code.proofs.laws.every_run_ends_once.Goals as goal

pub returns-clause-ends : goal.returns-clause-ends
returns-clause-ends c = λ procs code reads fuel w. ends_so procs code reads fuel w

pub returns-clause-once : goal.returns-clause-once
returns-clause-once c =
    λ procs code reads fuel a b r s. one_outcome procs code reads r.0 s.0
    (start_of code fuel) a b r.1 s.1
