use Rattle.std.proofs.Common.{drop}
use Rattle.std.specs.List.{AllByRecursion}
use Rattle.cir_emit.specs.Sourced.{HasHome}
use Rattle.wit_lower.specs.Homes.{Variable}
use Rattle.wit_sourced.specs.Shown.{homes_of}
use Rattle.cir_has.proofs.tasks.have_homes.Given as goal

abbrev pub invariant-loop-n : goal.invariant-loop-n
invariant-loop-n g l =
    AllByRecursion (λ n. HasHome (g.A.Arrays.there l.arrays) (homes_of l.scope.homes.items)
    (Variable n)) (drop l.n-index l.assigned)
    → AllByRecursion (λ n. HasHome (g.A.Arrays.there l.arrays) (homes_of l.scope.homes.items)
    (Variable n)) l.assigned
