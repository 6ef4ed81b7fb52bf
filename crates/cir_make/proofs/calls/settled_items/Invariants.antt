use Rattle.std.proofs.Common.{◌≡◌, [], ◌++◌, map, drop}
use Rattle.cir_values.specs.Meant.{meant}
use Rattle.cir_meaning.specs.Run.{settled_items}
use Rattle.cir_make.proofs.calls.settled_items.Given as goal

abbrev pub invariant-loop-v : goal.invariant-loop-v
invariant-loop-v l =
    l.numbers ++ settled_items (map meant (drop l.v-index l.values)) []
    ≡ settled_items (map meant l.values) []
