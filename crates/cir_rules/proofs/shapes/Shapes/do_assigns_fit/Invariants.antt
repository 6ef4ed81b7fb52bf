use Rattle.std.proofs.Common.{◌≡◌, drop}
use Rattle.std.specs.Prelude.{map}
use Rattle.std.specs.List.{list_all}
use Rattle.cir_ast.specs.Tree.{bare_assign}
use Rattle.cir_meaning.specs.Functions.{assign_fits}
use Rattle.cir_meaning.specs.Writing.{plain}
use Rattle.cir_rules.specs.Shaped.{dims_in}
use Rattle.cir_rules.proofs.shapes.Shapes.do_assigns_fit.Given as goal

abbrev pub invariant-loop-assign : goal.invariant-loop-assign
invariant-loop-assign l =
    list_all (assign_fits (dims_in l.self))
    (map (λ a. plain (bare_assign a.now)) (drop l.assign-index l.assigns))
    ≡ list_all (assign_fits (dims_in l.self)) (map (λ a. plain (bare_assign a.now)) l.assigns)
