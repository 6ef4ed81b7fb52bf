use Rattle.std.proofs.Common.{◌≡◌, drop, None}
use Rattle.std.specs.List.{AllByRecursion}
use Rattle.wit_lower.specs.Homes.{Variable, find}
use Rattle.wit_sourced.specs.Shown.{homes_of}
use Rattle.cir_has.proofs.tasks.are_fresh.Given as goal

abbrev pub invariant-loop-n : goal.invariant-loop-n
invariant-loop-n l =
    AllByRecursion (λ n. find (Variable n) (homes_of l.scope.homes.items) ≡ None)
    (drop l.n-index l.declared)
    → AllByRecursion (λ n. find (Variable n) (homes_of l.scope.homes.items) ≡ None) l.declared
