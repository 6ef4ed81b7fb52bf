use Rattle.std.proofs.Common.{◌≡◌, drop, map}
use Rattle.wit_lower.specs.Procedures as L
use Rattle.wit_sourced.specs.Shown.{scope_of}
use Rattle.wit_procs.proofs.procs.arguments.Given as goal

abbrev pub invariant-loop-at : goal.invariant-loop-at
invariant-loop-at l =
    L.arguments_scope l.at (map (λ d. d.items) (drop l.at l.shapes)) (scope_of l.scope)
    ≡ L.arguments_scope 0 (map (λ d. d.items) l.shapes) L.no_scope
