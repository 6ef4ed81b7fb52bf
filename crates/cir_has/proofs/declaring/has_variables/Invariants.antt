use Rattle.std.proofs.Common.{◌≡◌, drop, length, take}
use Rattle.std.specs.Prelude.{map}
use Rattle.cir_ast.specs.Tree.{bare_variable}
use Rattle.cir_emit.specs.Sourced.{VariablesHave}
use Rattle.wit_lower.specs.Statements as S
use Rattle.wit_emit.specs.Grounds.{ground_of}
use Rattle.wit_sourced.specs.Shown.{scope_of}
use Rattle.cir_has.proofs.declaring.has_variables.Given as goal

-- with what is left, it is the whole
abbrev pub invariant-loop-v : goal.invariant-loop-v
invariant-loop-v g l =
    (VariablesHave (g.A.Arrays.there l.arrays) (ground_of l.ground) (scope_of l.scope)
    (map bare_variable (drop l.v-index l.vs))
    → VariablesHave (g.A.Arrays.there l.arrays) (ground_of l.ground) (scope_of l.initial.scope)
    (map bare_variable l.vs))
    × (S.variables_scope (ground_of l.ground) (scope_of l.scope)
    (map bare_variable (drop l.v-index l.vs))
    ≡ S.variables_scope (ground_of l.ground) (scope_of l.initial.scope) (map bare_variable l.vs))
    × (take (length l.initial.scope.homes.items) l.scope.homes.items
    ≡ l.initial.scope.homes.items)
