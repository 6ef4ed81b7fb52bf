use Rattle.std.proofs.Common.{◌-◌}
use Rattle.std.specs.Prelude.{map, ◌^◌, ◌==◌}
use Rattle.cir_ast.specs.Program.{bare_program}
use Rattle.cir_rules.specs.Shown.{made_of}
use Rattle.cir_rules.specs.Judged.{function_calls, dimension_runs, misplaces}
use Rattle.cir_rules.proofs.Reaching.{Visits}
use Rattle.cir_rules.proofs.verdict.functions_reached.Given as goal

abbrev pub invariant-visits : goal.invariant-visits
invariant-visits l =
    let p = bare_program l.program in
    let first = map (λ m. m.function) (map made_of l.made) in
    record {
      dimension : Visits ◌==◌ (function_calls p) (dimension_runs p) first l.known.items l.at
          l.named.has_run_dimension;
      misplaced : Visits ◌==◌ (function_calls p) (misplaces p) first l.known.items l.at
          l.named.has_misplaced;
    }

abbrev pub decreases-visits : goal.decreases-visits
decreases-visits l = 2 ^ 64 - l.at
