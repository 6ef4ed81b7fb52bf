use Rattle.std.proofs.Common.{◌≡◌, ◌++◌, [], drop}
use Rattle.std.specs.Prelude.{map, unwrap_or}
use Rattle.cir_ast.specs.Tree.{bare}
use Rattle.cir_meaning.specs.Arrays.{Whole}
use Rattle.cir_meaning.specs.Functions.{shape_in}
use Rattle.cir_rules.specs.Shaped.{dims_in}
use Rattle.cir_rules.proofs.shapes.Shapes.argument_shapes.Given as goal

abbrev pub invariant-loop-e : goal.invariant-loop-e
invariant-loop-e l =
    map (λ d. d.items) l.shapes.items
    ++ map (λ e. unwrap_or (shape_in (dims_in l.self) Whole (bare e)) [])
    (drop l.e-index l.arguments)
    ≡ map (λ e. unwrap_or (shape_in (dims_in l.self) Whole (bare e)) []) l.arguments
