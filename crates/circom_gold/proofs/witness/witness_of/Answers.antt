use Rattle.std.proofs.lemmas.Result.{IfOk-weaker}
use Rattle.circom_gold.specs.Running.{EndsIn}
use Rattle.circom_gold.specs.Source.{program_of}
use Rattle.circom_gold.specs.Witness.{IsRunOf}
use Rattle.circom_gold.proofs.Witnessing.{run_of, same_instances}
use Rattle.circom_gold.proofs.witness.witness_of.Goals as goal

pub returns-clause-run : goal.returns-clause-run
returns-clause-run g c = λ inputs task.
    let x = c.args.coded in
    let ran = rw (c.take_code-code.ensures.code) at c.in_ok-end.ensures in
    IfOk-weaker c.ran_by.result
    (EndsIn (program_of x).files x.circuit.instances x.file c.in_ok-end.end)
    (IsRunOf (program_of x) x.file c.args.running.fuel inputs)
    (λ r ends. run_of (program_of x) x.file c.args.running.fuel inputs task.meaning.instances
    x.circuit.instances
    (same_instances c.requires.coded.0 x c.requires.coded.1 c.args.start.now inputs task)
    c.in_ok-end.end r (ran (program_of x) inputs task) ends)
    (rw (
      c.as_slice-files.ensures,
      c.as_slice-instances.ensures,
      c.take_code-code.ensures.loaded,
      c.take_code-code.ensures.circuit,
      c.take_code-code.ensures.file,
    ) at c.ran_by.ensures.ends)
