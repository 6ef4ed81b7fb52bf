use Rattle.std.proofs.Common.{◌≡◌, ◌++◌, drop, length}
use Rattle.std.specs.Prelude.{map, flat_map}
use Rattle.cir_values.specs.Meant.{meant}
use Rattle.cir_arrays.specs.Shown.{datum_of}
use Rattle.cir_evaluate.proofs.literal.items_in.Given as goal

abbrev pub invariant-loop-at : goal.invariant-loop-at
invariant-loop-at l = record {
  whole : map meant l.items.items
      ++ flat_map (λ d. d.items) (map datum_of (drop l.at l.all.items))
      ≡ flat_map (λ d. d.items) (map datum_of l.initial.all.items);
  many : length l.all.items ≡ length l.initial.all.items;
}
