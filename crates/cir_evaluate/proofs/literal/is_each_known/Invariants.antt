use Rattle.std.proofs.Common.{◌≡◌, drop}
use Rattle.std.specs.Prelude.{map}
use Rattle.std.specs.List.{list_all}
use Rattle.cir_meaning.specs.Arrays.{is_all_known}
use Rattle.cir_arrays.specs.Shown.{datum_of}
use Rattle.cir_evaluate.proofs.literal.is_each_known.Given as goal

abbrev pub invariant-loop-d : goal.invariant-loop-d
invariant-loop-d l =
    list_all is_all_known (map datum_of (drop l.d-index l.all))
    ≡ list_all is_all_known (map datum_of l.all)
