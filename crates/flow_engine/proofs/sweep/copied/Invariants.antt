use Rattle.std.proofs.Common.{◌≡◌, map, take}
use Rattle.std.specs.Prelude.{unwrap_or}
use Rattle.flow_board.specs.Closed.{cell_in}
use Rattle.flow_engine.proofs.sweep.copied.Given as goal

abbrev pub invariant-loop-cell : goal.invariant-loop-cell
invariant-loop-cell l =
    l.values.items ≡ map (λ c. unwrap_or (cell_in l.words c) 0) (take l.cell-index l.cells)
