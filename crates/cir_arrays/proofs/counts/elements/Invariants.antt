use Rattle.std.proofs.Common.{◌≡◌, ◌*◌, ◌<◌, drop}
use Rattle.cir_meaning.specs.Places.{elements}
use Rattle.cir_meaning.specs.Limits.{standing}
use Rattle.cir_arrays.proofs.counts.elements.Given as goal

abbrev pub invariant-loop-d : goal.invariant-loop-d
invariant-loop-d l = record {
  some : 0 < elements (drop l.d-index l.dims);
  product : standing (l.count * elements (drop l.d-index l.dims)) ≡ standing (elements l.dims);
  small : l.count ≡ standing l.count;
}
