use Rattle.std.proofs.Common.{◌≡◌, ◌++◌, drop}
use Rattle.std.specs.Prelude.{filter, map}
use Rattle.cir_ast.specs.declared.program.Spot.{Spot}
use Rattle.cir_ast.specs.declared.program.Meant.{Meant}
use Rattle.cir_ast.specs.Tree.{Statement}
use Rattle.cir_meaning.specs.Steps.{is_outer}
use Rattle.cir_cost.specs.Adds.{cell_of}
use Rattle.cir_execute.specs.Rests.{IsTouched}
use Rattle.cir_execute.proofs.undecided.enclose.Given as goal

abbrev pub invariant-loop-cell : goal.invariant-loop-cell
invariant-loop-cell l = record {
  reads : (a : Statement Spot Meant) → IsTouched a l.touched
      → map cell_of l.cost.reads.items
      ++ filter (is_outer a) (map cell_of (drop l.cell-index l.cell-items))
      ≡ map cell_of l.initial.cost.reads.items
      ++ filter (is_outer a) (map cell_of l.cell-items);
  nodes : l.cost.nodes ≡ l.initial.cost.nodes;
  calls : l.cost.calls ≡ l.initial.cost.calls;
}
