use Rattle.std.proofs.Common.{◌≡◌, ◌<◌, take}
use Rattle.std.specs.Prelude.{All}
use Rattle.gold_field.specs.declared.gold.TheConstants.{P}
use Rattle.wit_flow.specs.Cells.{held, numbers_at}
use Rattle.wit_flow.proofs.running.look.Given as goal

abbrev pub invariant-loop-cell : goal.invariant-loop-cell
invariant-loop-cell l = record {
  numbers : l.numbers.items ≡ numbers_at (held l.held_cells) (take l.cell-index l.cells);
  below : All (λ x. x < P) l.numbers.items;
}
