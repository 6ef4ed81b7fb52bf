use Rattle.std.proofs.Common.{◌≡◌, ◌<◌, ◌≤◌, length, take, drop}
use Rattle.cir_values.specs.Places.{elements}
use Rattle.cir_values.proofs.Rows.{CountsTo}
use Rattle.cir_values.proofs.names.indices.Given as goal

abbrev pub invariant-loop-at : goal.invariant-loop-at
invariant-loop-at l = record {
  within : l.at ≤ length l.dims;
  as_long : length l.index.items ≡ length l.dims;
  room : l.rest < elements (take l.at l.dims);
  counts : CountsTo (drop l.at l.dims) (drop l.at l.index.items) l.rest l.place;
}

abbrev pub decreases-loop-at : goal.decreases-loop-at
decreases-loop-at l = l.at
