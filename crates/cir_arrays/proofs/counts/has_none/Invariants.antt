use Rattle.std.proofs.Common.{◌≡◌, drop}
use Rattle.std.specs.Prelude.{◌==◌}
use Rattle.cir_meaning.specs.Places.{elements}
use Rattle.cir_arrays.proofs.counts.has_none.Given as goal

abbrev pub invariant-loop-d : goal.invariant-loop-d
invariant-loop-d l = (elements (drop l.d-index l.dims) == 0) ≡ (elements l.dims == 0)
