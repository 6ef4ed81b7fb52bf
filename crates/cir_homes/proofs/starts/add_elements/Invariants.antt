use Rattle.std.proofs.Common.{◌≡◌, ◌++◌, ◌-◌, map}
use Rattle.cir_meaning.specs.Places.{numbers_from}
use Rattle.cir_steps.specs.Emission.{wire_cell}
use Rattle.cir_make.specs.Cells.{wires_by}
use Rattle.cir_homes.proofs.starts.add_elements.Given as goal

abbrev pub invariant-loop-k : goal.invariant-loop-k
invariant-loop-k l =
    l.starts.items ++ map (wire_cell (wires_by l.ports) l.n) (numbers_from l.k (l.count - l.k))
    ≡ l.initial.starts.items ++ map (wire_cell (wires_by l.ports) l.n) (numbers_from 0 l.count)
