use Rattle.cir_ast.specs.Program.{bare_main, bare_program}
use Rattle.cir_meaning.specs.Compile.{circuit_of, group_size}
use Rattle.cir_frame.specs.Shown.{world_of}
use Rattle.cir_inst.proofs.Compiling.{made_by}
use Rattle.cir_inst.proofs.circuit.compile.Goals as goal

pub returns-clause-meaning : goal.returns-clause-meaning
returns-clause-meaning c =
    let made = c.in_ok-world.ensures in (
      circuit_of group_size (world_of c.in_ok-world.world made.0),
      made_by (bare_program c.args.program.now) (bare_main c.in_ok-main.main.now)
          c.in_ok-world.world made.0 made.1 c.in_ok-main.ensures made.2,
      c.in_ok-circuit.ensures.circuit made.0 made.3,
    )
