use Rattle.std.proofs.Common.{◌≡◌, ◌++◌, drop}
use Rattle.std.specs.Prelude.{map, unwrap_or}
use Rattle.cir_ast.specs.Tree.{bare}
use Rattle.cir_meaning.specs.Texts.{literal_number}
use Rattle.cir_texts.proofs.bodies.written_dims.Given as goal

abbrev pub invariant-loop-e : goal.invariant-loop-e
invariant-loop-e l =
    l.dims.items
    ++ map (λ e. unwrap_or (literal_number (bare e)) 0) (drop l.e-index l.dimensions)
    ≡ map (λ e. unwrap_or (literal_number (bare e)) 0) l.dimensions
