use Rattle.std.proofs.Common.{◌≡◌}
use Rattle.std.specs.Prelude.{filter}
use Rattle.cir_arrays.specs.Shown.{datum_of}
use Rattle.cir_meaning.specs.Arrays.{put_items}
use Rattle.cir_meaning.specs.Places.{numbers_from}
use Rattle.cir_write.specs.Assigned.{is_new_in}
use Rattle.cir_write.proofs.assigning.unknown_places.Given as goal

abbrev pub invariant-loop-at : goal.invariant-loop-at
invariant-loop-at l =
    l.places.items ≡ filter (is_new_in (put_items (numbers_from l.first l.count)
    (datum_of l.value).items (datum_of l.old).items)) (numbers_from l.first l.at)
