use Rattle.std.proofs.Common.{arith}
use Rattle.cir_ast.specs.Program.{bare_main, bare_program}
use Rattle.cir_frame.specs.Shown.{sizes_of}
use Rattle.cir_inst.proofs.Compiling.{main_refused, refused_by}
use Rattle.cir_body.proofs.Coded.{both_coded, executed_coded, exit_codes, few_steps}
use Rattle.cir_body.proofs.circuit.execute.Goals as goal

pub returns-in_err-main : goal.returns-in_err-main
returns-in_err-main c =
    let p = bare_program c.args.program.now in
    exit_codes p _ _ c.from_residual.ensures.1
    (main_refused p c.in_err-main.field-0.0 c.in_err-main.ensures)

pub returns-in_err-executed : goal.returns-in_err-executed
returns-in_err-executed c =
    let p = bare_program c.args.program.now in
    exit_codes p _ _ c.from_residual-in_err-executed.ensures.1
    (refused_by p (bare_main c.in_ok-main.main.now) c.in_err-executed.field-0.0
    c.in_ok-main.ensures c.in_err-executed.ensures)

pub code_of-requires-clause-few : goal.code_of-requires-clause-few
code_of-requires-clause-few c =
    let p = bare_program c.args.program.now in
    let m = bare_main c.in_ok-main.main.now in
    let x = c.in_ok-executed.executed in
    let made = executed_coded p m x c.requires.resolved c.in_ok-main.ensures
    c.in_ok-executed.ensures in
    let few = few_steps p m (sizes_of x.whole.world.sizes) x.whole.made x.cast made.0
    c.requires.resolved made.1 in
    omega (arith, few, x.cast.steps.ok)

pub circuit_of-requires : goal.circuit_of-requires
circuit_of-requires c =
    (c.in_ok-executed.ensures.equations, c.in_ok-executed.ensures.is_made)

pub returns : goal.returns
returns c =
    both_coded (bare_program c.args.program.now) (bare_main c.in_ok-main.main.now)
    c.in_ok-executed.executed c.in_ok-circuit.circuit c.in_ok-code.code c.requires.resolved
    c.in_ok-main.ensures c.in_ok-executed.ensures (λ es made. c.in_ok-circuit.ensures.circuit es
    made) c.in_ok-circuit.ensures.fits c.in_ok-code.ensures
