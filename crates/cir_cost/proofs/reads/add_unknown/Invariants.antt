use Rattle.std.proofs.Common.{◌≡◌, ◌++◌, drop}
use Rattle.std.specs.Prelude.{map}
use Rattle.cir_arrays.specs.Shown.{datum_of}
use Rattle.cir_meaning.specs.Costs.{unknown_at}
use Rattle.cir_cost.specs.Adds.{cell_of}
use Rattle.cir_cost.proofs.reads.add_unknown.Given as goal

abbrev pub invariant-loop-place : goal.invariant-loop-place
invariant-loop-place l =
    map cell_of l.reads.items
    ++ unknown_at l.variable (datum_of l.d) (drop l.place-index l.places)
    ≡ map cell_of l.initial.reads.items ++ unknown_at l.variable (datum_of l.d) l.places
