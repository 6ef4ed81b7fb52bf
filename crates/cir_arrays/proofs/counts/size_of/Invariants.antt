use Rattle.std.proofs.Common.{◌≡◌, take}
use Rattle.std.specs.Prelude.{max, fold}
use Rattle.cir_meaning.specs.Places.{elements}
use Rattle.cir_meaning.specs.Limits.{standing}
use Rattle.cir_arrays.proofs.counts.size_of.Given as goal

abbrev pub invariant-loop-d : goal.invariant-loop-d
invariant-loop-d l = l.size ≡ standing (max (elements l.dims) (fold max 0 (take l.d-index l.dims)))
