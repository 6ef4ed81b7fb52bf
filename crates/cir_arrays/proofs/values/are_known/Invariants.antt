use Rattle.std.proofs.Common.{◌≡◌, drop}
use Rattle.std.specs.Prelude.{map}
use Rattle.std.specs.List.{list_all}
use Rattle.cir_meaning.specs.Arrays.{is_known}
use Rattle.cir_values.specs.Meant.{meant}
use Rattle.cir_arrays.proofs.values.are_known.Given as goal

abbrev pub invariant-loop-v : goal.invariant-loop-v
invariant-loop-v l =
    list_all is_known (map meant (drop l.v-index l.values)) ≡ list_all is_known (map meant l.values)
