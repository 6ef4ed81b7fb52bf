use Rattle.std.proofs.Common.{◌≡◌, ℕ, map}
use Rattle.cir_frame.specs.Targets.{run_of}
use Rattle.cir_meaning.specs.Places.{numbers_from}
use Rattle.cir_steps.specs.Emission.{Emission, ports_of, wire_cell}
use Rattle.cir_make.specs.Shows.{HaveCells}
use Rattle.cir_write.proofs.wiring.targets.Given as goal

abbrev pub invariant-loop-at : goal.invariant-loop-at
invariant-loop-at l =
    (x : Emission) → HaveCells x l.cells
    → l.targets ≡ map (wire_cell (ports_of l.target.part x) l.target.number)
    (numbers_from (run_of l.target.reach.part).0 l.at)
