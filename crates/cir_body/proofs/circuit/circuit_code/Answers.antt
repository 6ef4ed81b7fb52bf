use Rattle.cir_ast.specs.Program.{bare_program}
use Rattle.cir_inst.proofs.Compiling.{instantiated, not_instantiated, satisfied}
use Rattle.cir_body.proofs.circuit.circuit_code.Goals as goal

pub returns-in-Ok-clause-meaning : goal.returns-in-Ok-clause-meaning
returns-in-Ok-clause-meaning c =
    let is = c.in-Ok.ensures in
    instantiated (bare_program c.args.program.now) c.in-Ok.made.0
    (is.circuit, is.compiles, is.instantiated)

pub returns-in-Ok-clause-satisfied : goal.returns-in-Ok-clause-satisfied
returns-in-Ok-clause-satisfied c =
    let is = c.in-Ok.ensures in
    satisfied (bare_program c.args.program.now) c.in-Ok.made.0
    (is.circuit, is.compiles, is.instantiated)

pub returns-in-Err-clause-meaning : goal.returns-in-Err-clause-meaning
returns-in-Err-clause-meaning c =
    not_instantiated (bare_program c.args.program.now) c.in-Err.fault c.placed.result
    c.in-Err.ensures c.placed.ensures
