use Rattle.std.proofs.Common.{◌≡◌, ◌++◌, drop}
use Rattle.std.specs.Prelude.{map}
use Rattle.wit_lower.specs.Tasks as T
use Rattle.wit_statements.specs.Asked.{element_of}
use Rattle.wit_sourced.specs.Shown.{homes_of}
use Rattle.wit_statements.proofs.tasks.emit_targets.Given as goal

abbrev pub invariant-loop-target : goal.invariant-loop-target
invariant-loop-target l =
    l.code ++ T.targets_code (homes_of l.scope.homes.items)
    (map element_of (drop l.target-index l.targets))
    ≡ l.initial.code ++ T.targets_code (homes_of l.scope.homes.items)
    (map element_of l.targets)
