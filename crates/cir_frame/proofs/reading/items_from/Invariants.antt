use Rattle.std.proofs.Common.{◌≡◌}
use Rattle.std.specs.Prelude.{map}
use Rattle.cir_values.specs.Meant.{meant}
use Rattle.cir_meaning.specs.Frame.{signal_item}
use Rattle.cir_meaning.specs.Places.{numbers_from}
use Rattle.cir_frame.specs.Shown.{signal_of}
use Rattle.cir_frame.proofs.reading.items_from.Given as goal

abbrev pub invariant-loop-k : goal.invariant-loop-k
invariant-loop-k l =
    map meant l.items.items ≡ map (signal_item (signal_of l.entry)) (numbers_from l.first l.k)
