use Rattle.std.proofs.Common.{◌≡◌, ◌+◌, ◌++◌, drop}
use Rattle.std.specs.Prelude.{map}
use Rattle.cir_meaning.specs.Costs.{Wire}
use Rattle.cir_cost.specs.Adds.{cell_of}
use Rattle.cir_cost.proofs.reads.add_wires.Given as goal

abbrev pub invariant-loop-place : goal.invariant-loop-place
invariant-loop-place l =
    map cell_of l.reads.items ++ map (λ k. Wire (l.entry.first + k)) (drop l.place-index l.places)
    ≡ map cell_of l.initial.reads.items ++ map (λ k. Wire (l.entry.first + k)) l.places
