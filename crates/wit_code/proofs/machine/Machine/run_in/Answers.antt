use Rattle.wit_code.proofs.Runs.{is_outcome}
use Rattle.wit_code.proofs.machine.Machine.run_in.Goals as goal

pub returns-clause-outcome : goal.returns-clause-outcome
returns-clause-outcome c =
    is_outcome c.args.procs.now c.args.code.now c.args.reads.now c.args.fuel c.requires
    c.run_to_end.result c.run_to_end.ensures
