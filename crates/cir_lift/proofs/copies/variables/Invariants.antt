use Rattle.std.proofs.Common.{◌≡◌, ◌++◌, drop}
use Rattle.std.specs.Prelude.{map}
use Rattle.cir_ast.specs.Tree.{bare_variable}
use Rattle.cir_lift.proofs.copies.variables.Given as goal

abbrev pub invariant-loop-v : goal.invariant-loop-v
invariant-loop-v l =
    map bare_variable l.copies.items ++ map bare_variable (drop l.v-index l.vs)
    ≡ map bare_variable l.vs
