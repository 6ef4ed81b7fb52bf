use Rattle.std.proofs.Common.{◌≡◌, ◌++◌, map}
use Rattle.std.specs.Prelude.{All}
use Rattle.cir_frame.specs.Shown.{sizes_of}
use Rattle.cir_inst.specs.Renumbered.{IsNumbered, renumbered_constraint}
use Rattle.cir_inst.proofs.table.renumbered.Given as goal

abbrev pub invariant-loop-constraint : goal.invariant-loop-constraint
invariant-loop-constraint l = record {
  done : map (renumbered_constraint (sizes_of l.sizes)) l.fn.constraints.items
      ≡ l.list.items
      ++ map (renumbered_constraint (sizes_of l.sizes)) l.constraint-iterator.rest.items;
  numbered : All (IsNumbered (sizes_of l.sizes)) l.constraint-iterator.rest.items;
}
