use Rattle.std.proofs.Common.{◌≡◌, ◌+◌, ◌*◌, ◌≤◌, drop}
use Rattle.cir_values.specs.Places.{elements, counted_on, place_of, IsInside}
use Rattle.cir_values.proofs.shape.place.Given as goal

abbrev pub invariant-loop-at : goal.invariant-loop-at
invariant-loop-at l = record {
  joined : counted_on (l.place * elements (drop l.at l.dims))
      (place_of (drop l.at l.dims) (drop l.at l.index)) ≡ place_of l.dims l.index;
  room : (l.place + 1) * elements (drop l.at l.dims) ≤ elements l.dims;
  inside : IsInside (drop l.at l.dims) (drop l.at l.index);
}
