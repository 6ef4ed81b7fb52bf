use Rattle.std.proofs.Common.{◌≡◌, drop}
use Rattle.std.specs.Prelude.{map}
use Rattle.std.specs.List.{list_all}
use Rattle.cir_meaning.specs.Arrays.{same_dims}
use Rattle.cir_arrays.specs.Shown.{datum_of}
use Rattle.cir_evaluate.proofs.literal.have_one_shape.Given as goal

abbrev pub invariant-loop-d : goal.invariant-loop-d
invariant-loop-d l =
    list_all (λ e. same_dims e.dims (datum_of l.first).dims) (map datum_of (drop l.d-index l.rest))
    ≡ list_all (λ e. same_dims e.dims (datum_of l.first).dims) (map datum_of l.rest)
