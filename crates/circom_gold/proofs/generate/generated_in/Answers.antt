use Rattle.std.proofs.Common.{◌∙◌, arith}
use Rattle.std.proofs.lemmas.Result.{err_from_is_err_and}
use Rattle.cir_simplify.specs.declared.types.Level.TheVariants.{O1}
use Rattle.circom_lines.specs.Generated.{generated_input}
use Rattle.circom_gold.proofs.Generating.{made_so, made_task, unmade}
use Rattle.circom_gold.proofs.generate.generated_in.Goals as goal

pub returns-in_err-coded : goal.returns-in_err-coded
returns-in_err-coded g c =
    let p = err_from_is_err_and c.from_residual.result c.from_residual.ensures.1 in
    rw (p.1, p.2)
    (unmade c.args.seed c.args.size c.args.running.fuel c.in_err-coded.field-0.0
    c.in_err-coded.ensures.sources)

pub generated_of-requires-clause-coded : goal.generated_of-requires-clause-coded
generated_of-requires-clause-coded g c = λ κs within. (O1, c.in_ok-coded.ensures.coded)

pub generated_of-requires-clause-task : goal.generated_of-requires-clause-task
generated_of-requires-clause-task g c = λ κs within.
    let inputs = c.has_inputs.ensures c.if-not-has_inputs.false in (
      generated_input c.args.seed,
      made_task c.in_ok-coded.coded c.in_ok-coded.ensures.coded c.args.seed c.as_slice.result.now
          (c.as_slice.ensures.value ∙ c.in_ok-start.ensures) inputs.0 inputs.1,
    )

pub returns : goal.returns
returns g c =
    let inputs = c.has_inputs.ensures c.if-not-has_inputs.false in
    made_so c.in_ok-coded.coded c.in_ok-coded.ensures.coded c.args.seed c.as_slice.result.now
    (c.as_slice.ensures.value ∙ c.in_ok-start.ensures) inputs.0 inputs.1 c.args.size
    c.args.running.fuel c.in_ok-found.found (omega arith)
    c.in_ok-coded.ensures.sources c.in_ok-found.ensures
