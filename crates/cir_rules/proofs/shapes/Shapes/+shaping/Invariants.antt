use Rattle.std.proofs.Common.{◌≡◌, drop}
use Rattle.std.specs.Prelude.{is_some, map}
use Rattle.cir_ast.specs.Tree.{bare_exprs, as_accessors}
use Rattle.cir_meaning.specs.Functions.{index_shapes}
use Rattle.cir_rules.specs.Shaped.{dims_in, all_shapes}
use Rattle.cir_rules.proofs.Shaping.{in_front}
use Rattle.cir_rules.proofs.shapes.Shapes.+shaping.Given as goal

abbrev pub invariant-do_indices_fit-loop-accessor : goal.invariant-do_indices_fit-loop-accessor
invariant-do_indices_fit-loop-accessor l =
    is_some (index_shapes (dims_in l.self) (as_accessors (drop l.accessor-index l.accessors)))
    ≡ is_some (index_shapes (dims_in l.self) (as_accessors l.accessors))

abbrev pub invariant-all_shapes-loop-e : goal.invariant-all_shapes-loop-e
invariant-all_shapes-loop-e l =
    in_front (map (λ d. d.items) l.shapes.items)
    (all_shapes (dims_in l.self) (bare_exprs (drop l.e-index l.es)))
    ≡ all_shapes (dims_in l.self) (bare_exprs l.es)
