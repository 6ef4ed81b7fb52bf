use Rattle.std.proofs.Common.{◌≡◌, drop}
use Rattle.std.specs.Prelude.{map}
use Rattle.std.specs.List.{list_all}
use Rattle.cir_ast.specs.Tree.{bare_variable}
use Rattle.cir_meaning.specs.Functions.{value_fits}
use Rattle.cir_rules.specs.Shaped.{dims_in}
use Rattle.cir_rules.proofs.shapes.Shapes.do_values_fit.Given as goal

abbrev pub invariant-loop-variable : goal.invariant-loop-variable
invariant-loop-variable l =
    list_all (λ v. value_fits (dims_in l.self) v v.value)
    (map (λ v. bare_variable v.now) (drop l.variable-index l.variables))
    ≡ list_all (λ v. value_fits (dims_in l.self) v v.value)
    (map (λ v. bare_variable v.now) l.variables)
