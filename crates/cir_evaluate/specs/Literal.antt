-- The shape of an array literal, by its elements.
use Rattle.std.specs.Prelude.{ℕ, Bool, true, List, [], ◌∷◌, length}
use Rattle.std.specs.List.{list_all}
use Rattle.cir_meaning.specs.Arrays.{Datum, same_dims}

abbrev pub are_of_one_shape : List Datum → Bool
are_of_one_shape [] = true
are_of_one_shape (d ∷ ds) = list_all (λ e. same_dims e.dims d.dims) ds

abbrev pub dims_of : List Datum → List ℕ
dims_of [] = []
dims_of (d ∷ ds) = length (d ∷ ds) ∷ d.dims
