use Rattle.std.proofs.lemmas.Result.{IfOk-weaker}
use Rattle.circom_gold.specs.Running.{GeneratesIn}
use Rattle.circom_gold.specs.Source.{program_of}
use Rattle.circom_gold.specs.Witness.{IsGeneratedRun}
use Rattle.circom_gold.proofs.Satisfied.{satisfied_file}
use Rattle.circom_gold.proofs.Witnessing.{generated_run_of, same_instances}
use Rattle.circom_gold.proofs.generate.generated_of.Goals as goal

pub returns : goal.returns
returns g c = λ inputs task small.
    let x = c.args.coded in
    let ran = rw (c.take_code-code.ensures.code) at c.in_ok-end.ensures in
    IfOk-weaker c.generated_by.result
    (GeneratesIn (program_of x).files x.circuit.instances x.file c.in_ok-end.end)
    (IsGeneratedRun (program_of x) x.file c.args.running.fuel inputs)
    (λ r ends. generated_run_of (program_of x) x.file c.args.running.fuel inputs
    task.meaning.instances x.circuit.instances
    (same_instances c.requires.coded.0 x c.requires.coded.1 c.args.start.now inputs task)
    (λ numbers log runs.
    satisfied_file (program_of x) c.requires.coded.0 x.file c.requires.coded.1.written
    task.resolved task.meaning task.compiles c.args.running.fuel inputs numbers log task.each small
    runs) c.in_ok-end.end r (ran (program_of x) inputs task) ends)
    (rw (
      c.as_slice-files.ensures,
      c.as_slice-instances.ensures,
      c.take_code-code.ensures.loaded,
      c.take_code-code.ensures.circuit,
      c.take_code-code.ensures.file,
    ) at c.generated_by.ensures)
