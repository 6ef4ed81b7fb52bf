use Rattle.std.proofs.Common.{◌≡◌, length, drop}
use Rattle.wit_flow.specs.Cells.{held, with_values}
use Rattle.wit_flow.proofs.running.put.Given as goal

abbrev pub invariant-loop-at : goal.invariant-loop-at
invariant-loop-at l = record {
  wide : length l.held_cells ≡ length l.fn.held_cells;
  same : with_values (held l.held_cells) (drop l.at l.cells) (drop l.at l.values)
      ≡ with_values (held l.fn.held_cells) l.cells l.values;
}
