use Rattle.std.proofs.Common.{◌≡◌, ◌-◌, drop, length}
use Rattle.cir_meaning.specs.Places.{is_inside}
use Rattle.cir_arrays.proofs.places.is_inside.Given as goal

abbrev pub invariant-loop-at : goal.invariant-loop-at
invariant-loop-at l =
    is_inside (drop l.at l.dims) (drop l.at l.indices) ≡ is_inside l.dims l.indices

abbrev pub decreases-loop-at : goal.decreases-loop-at
decreases-loop-at l = length l.dims - l.at
