use Rattle.std.proofs.Common.{arith}
use Rattle.std.specs.Prelude.{map, ◌==◌}
use Rattle.cir_ast.specs.Program.{bare_program}
use Rattle.cir_rules.specs.Shown.{made_of}
use Rattle.cir_rules.specs.Judged.{function_calls, dimension_runs, misplaces}
use Rattle.cir_rules.proofs.Reaching.{visits_more, visits_all}
use Rattle.cir_rules.proofs.verdict.functions_reached.Goals as goal

pub visits-preserved : goal.visits-preserved
visits-preserved c =
    let p = bare_program c.args.program.now in
    let first = map (λ m. m.function) (map made_of c.args.made.now) in
    record {
      dimension = rw c.and-named.ensures.dimension
          (visits_more ◌==◌ (function_calls p) (dimension_runs p)
          first c.visits.known.items _ c.visits.at _ _ c.visits.invariant.dimension
          (omega (arith, c.len.ensures)) c.in_ok-one.ensures.more c.in_ok-one.ensures.dimension);
      misplaced = rw c.and-named.ensures.misplaced
          (visits_more ◌==◌ (function_calls p) (misplaces p)
          first c.visits.known.items _ c.visits.at _ _ c.visits.invariant.misplaced
          (omega (arith, c.len.ensures)) c.in_ok-one.ensures.more c.in_ok-one.ensures.misplaced);
    }

pub returns-clause-dimension : goal.returns-clause-dimension
returns-clause-dimension c =
    let p = bare_program c.args.program.now in
    visits_all ◌==◌ (function_calls p) (dimension_runs p)
    (map (λ m. m.function) (map made_of c.args.made.now)) c.visits.known.items c.visits.at
    _ c.visits.invariant.dimension (omega (arith, c.len.ensures))
    (omega (arith, c.visits.auto.at-fits))

pub returns-clause-misplaced : goal.returns-clause-misplaced
returns-clause-misplaced c =
    let p = bare_program c.args.program.now in
    visits_all ◌==◌ (function_calls p) (misplaces p)
    (map (λ m. m.function) (map made_of c.args.made.now)) c.visits.known.items c.visits.at
    _ c.visits.invariant.misplaced (omega (arith, c.len.ensures))
    (omega (arith, c.visits.auto.at-fits))
