use Rattle.std.proofs.Common.{◌≡◌, ◌<◌, ◌≤◌, drop}
use Rattle.cir_meaning.specs.Places.{elements, places_of}
use Rattle.cir_arrays.proofs.Indices.{spread_by}
use Rattle.cir_arrays.proofs.places.places_of.Given as goal

abbrev pub invariant-loop-at : goal.invariant-loop-at
invariant-loop-at l = record {
  whole : spread_by (places_of (drop l.at l.dims) (drop l.at l.indices)) l.firsts.items
      ≡ places_of l.dims l.indices;
  some : 0 < elements (drop l.at l.dims);
  small : elements (drop l.at l.dims) ≤ 67108864;
}
