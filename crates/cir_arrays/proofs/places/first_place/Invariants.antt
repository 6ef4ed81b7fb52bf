use Rattle.std.proofs.Common.{◌≡◌, ◌+◌, ◌-◌, drop, length}
use Rattle.cir_meaning.specs.Limits.{standing}
use Rattle.cir_arrays.specs.Reached.{first_of}
use Rattle.cir_arrays.proofs.places.first_place.Given as goal

abbrev pub invariant-loop-at : goal.invariant-loop-at
invariant-loop-at l = record {
  whole : standing (l.place + first_of (drop l.at l.dims) (drop l.at l.indices))
      ≡ standing (first_of l.dims l.indices);
  small : l.place ≡ standing l.place;
}

abbrev pub decreases-loop-at : goal.decreases-loop-at
decreases-loop-at l = length l.dims - l.at
