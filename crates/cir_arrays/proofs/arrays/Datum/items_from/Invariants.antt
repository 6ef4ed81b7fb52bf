use Rattle.std.proofs.Common.{◌≡◌}
use Rattle.std.specs.Prelude.{map}
use Rattle.cir_values.specs.Meant.{meant}
use Rattle.cir_meaning.specs.Arrays.{item_at}
use Rattle.cir_meaning.specs.Places.{numbers_from}
use Rattle.cir_arrays.specs.Shown.{datum_of}
use Rattle.cir_arrays.proofs.arrays.Datum.items_from.Given as goal

abbrev pub invariant-loop-k : goal.invariant-loop-k
invariant-loop-k l =
    map meant l.items.items ≡ map (item_at (datum_of l.self).items) (numbers_from l.first l.k)
