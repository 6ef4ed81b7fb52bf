use Rattle.std.proofs.Common.{drop}
use Rattle.std.specs.Prelude.{map}
use Rattle.std.specs.List.{AllByRecursion}
use Rattle.cir_ast.specs.Tree.{bare_argument}
use Rattle.cir_emit.specs.Sourced.{HasAll}
use Rattle.wit_lower.specs.Tasks.{logged}
use Rattle.wit_emit.specs.Grounds.{ground_of}
use Rattle.wit_sourced.specs.Shown.{homes_of}
use Rattle.cir_has.proofs.tasks.has_logged.Given as goal

abbrev pub invariant-loop-argument : goal.invariant-loop-argument
invariant-loop-argument g l =
    AllByRecursion (HasAll (g.A.Arrays.there l.arrays) (ground_of l.ground)
    (homes_of l.scope.homes.items))
    (logged (map bare_argument (drop l.argument-index l.arguments)))
    → AllByRecursion (HasAll (g.A.Arrays.there l.arrays) (ground_of l.ground)
    (homes_of l.scope.homes.items)) (logged (map bare_argument l.arguments))
