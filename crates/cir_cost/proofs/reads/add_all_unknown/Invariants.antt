use Rattle.std.proofs.Common.{◌≡◌, ◌++◌}
use Rattle.std.specs.Prelude.{map}
use Rattle.cir_arrays.specs.Shown.{datum_of}
use Rattle.cir_meaning.specs.Places.{numbers_from}
use Rattle.cir_meaning.specs.Costs.{unknown_at}
use Rattle.cir_cost.specs.Adds.{cell_of}
use Rattle.cir_cost.proofs.reads.add_all_unknown.Given as goal

abbrev pub invariant-loop-element : goal.invariant-loop-element
invariant-loop-element l =
    map cell_of l.reads.items ≡ map cell_of l.initial.reads.items
    ++ unknown_at l.variable (datum_of l.d) (numbers_from 0 l.element)
