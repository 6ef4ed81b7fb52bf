use Rattle.std.proofs.Common.{◌≡◌, ◌++◌, drop, length}
use Rattle.std.specs.Prelude.{map}
use Rattle.cir_values.specs.Meant.{meant}
use Rattle.cir_evaluate.proofs.literal.add_all.Given as goal

abbrev pub invariant-loop-at : goal.invariant-loop-at
invariant-loop-at l = record {
  whole : map meant l.items.items ++ map meant (drop l.at l.more.items)
      ≡ map meant l.initial.items.items ++ map meant l.initial.more.items;
  many : length l.more.items ≡ length l.initial.more.items;
}
