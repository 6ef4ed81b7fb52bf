use Rattle.cir_ast.specs.Program.{bare_program}
use Rattle.cir_inst.proofs.Compiling.{satisfied}
use Rattle.cir_inst.proofs.circuit.instantiate.Goals as goal

pub returns-in-Ok-clause-satisfied : goal.returns-in-Ok-clause-satisfied
returns-in-Ok-clause-satisfied c =
    satisfied (bare_program c.args.program.now) c.in-Ok.circuit c.in-Ok.ensures.meaning
