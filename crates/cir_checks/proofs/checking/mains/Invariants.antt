use Rattle.std.proofs.Common.{◌≡◌, drop}
use Rattle.std.specs.Prelude.{map, if◌then◌else◌}
use Rattle.cir_resolve.specs.Definitions.{bare_definition}
use Rattle.cir_checks.specs.Checks.{mains_among, second_main, mains_fault}
use Rattle.cir_checks.proofs.checking.mains.Given as goal

-- what is left has the fault of all
abbrev pub invariant-loop-definition : goal.invariant-loop-definition
invariant-loop-definition l =
    let left = mains_among (map bare_definition (drop l.definition-index l.definitions)) in
    (if l.one then second_main left else mains_fault left)
    ≡ mains_fault (mains_among (map bare_definition l.definitions))
