use Rattle.std.proofs.Common.{◌≡◌, ℕ, ◌<◌, length, get_or, unwrap_or}
use Rattle.flow_board.specs.Closed.{cell_in}
use Rattle.flow_engine.proofs.sweep.all_numbers.Given as goal

abbrev pub invariant-loop-cell : goal.invariant-loop-cell
invariant-loop-cell l = record {
  each : length l.numbers.items ≡ l.cell;
  numbers : (c : ℕ) → c < l.cell → get_or l.numbers.items c 0 ≡ unwrap_or (cell_in l.words c) 0;
}
