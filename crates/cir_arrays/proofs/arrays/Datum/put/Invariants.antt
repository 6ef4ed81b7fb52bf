use Rattle.std.proofs.Common.{◌≡◌, ◌+◌, ◌-◌, drop, length}
use Rattle.std.specs.Prelude.{map}
use Rattle.cir_values.specs.Meant.{meant}
use Rattle.cir_meaning.specs.Arrays.{put_items}
use Rattle.cir_meaning.specs.Places.{numbers_from}
use Rattle.cir_arrays.specs.Shown.{datum_of}
use Rattle.cir_arrays.proofs.arrays.Datum.put.Given as goal

abbrev pub invariant-loop-at : goal.invariant-loop-at
invariant-loop-at l = record {
  whole : put_items (numbers_from (l.first + l.at) (l.count - l.at))
      (map meant (drop l.at l.items.items)) (datum_of l.self).items
      ≡ put_items (numbers_from l.first l.count) (map meant l.initial.items.items)
      (datum_of l.initial.self).items;
  dims : (datum_of l.self).dims ≡ (datum_of l.initial.self).dims;
  many : length l.items.items ≡ length l.initial.items.items;
}
