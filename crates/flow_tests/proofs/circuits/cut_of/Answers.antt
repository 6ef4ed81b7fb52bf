use Rattle.cir_ast.specs.Program.{bare_program}
use Rattle.cir_scope.proofs.Loaded.{of_sources}
use Rattle.cir_steps.proofs.CheckedPlaces.{checked_places}
use Rattle.flow_tests.proofs.circuits.cut_of.Goals as goal

pub circuit_code-requires-clause-free : goal.circuit_code-requires-clause-free
circuit_code-requires-clause-free c = (of_sources _ c.requires.theirs).0.functions

pub circuit_code-requires-clause-resolved : goal.circuit_code-requires-clause-resolved
circuit_code-requires-clause-resolved c = (of_sources _ c.requires.theirs).0

pub of-requires : goal.of-requires
of-requires c =
    let whole = of_sources _ c.requires.theirs in (
      bare_program c.args.program.now,
      whole.0,
      checked_places (bare_program c.args.program.now) c.requires.checked,
      c.in-Ok.ensures.coded whole.2 whole.1,
    )
