use Rattle.std.proofs.Common.{◌≡◌, [], drop}
use Rattle.std.specs.Prelude.{map}
use Rattle.wit_lower.specs.Sources as R
use Rattle.wit_sourced.specs.Loads.{shape_of}
use Rattle.wit_sourced.specs.Shown.{scope_of}
use Rattle.wit_sourced.proofs.homes.Scope.of.Given as goal

abbrev pub invariant-loop-shape : goal.invariant-loop-shape
invariant-loop-shape l =
    R.homes_from (map shape_of (drop l.shape-index l.shapes)) (scope_of l.scope)
    ≡ R.homes_from (map shape_of l.shapes) record { homes = []; top = 0 }
