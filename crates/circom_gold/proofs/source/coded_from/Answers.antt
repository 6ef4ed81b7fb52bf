use Rattle.cir_ast.specs.Program.{bare_program}
use Rattle.cir_scope.proofs.Loaded.{of_sources}
use Rattle.cir_steps.proofs.CheckedPlaces.{checked_places}
use Rattle.circom_gold.proofs.source.coded_from.Goals as goal

pub circuit_code-requires-clause-free : goal.circuit_code-requires-clause-free
circuit_code-requires-clause-free c = (of_sources _ c.requires.theirs).0.functions

pub circuit_code-requires-clause-resolved : goal.circuit_code-requires-clause-resolved
circuit_code-requires-clause-resolved c = (of_sources _ c.requires.theirs).0

pub returns-clause-coded : goal.returns-clause-coded
returns-clause-coded c =
    let whole = of_sources _ c.requires.theirs in
    record {
      resolved = whole.0;
      places = checked_places (bare_program c.args.loaded.program) c.requires.checked;
      instantiated = c.in_ok-circuit.ensures.meaning;
      fits = c.in_ok-circuit.ensures.fits;
      written = c.in_ok-file.ensures.writes;
      limits = c.in_ok-file.ensures.limits;
      made = c.in_ok-circuit.ensures.coded whole.2 whole.1;
    }
