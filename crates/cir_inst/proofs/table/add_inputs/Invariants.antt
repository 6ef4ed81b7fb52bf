use Rattle.std.proofs.Common.{◌≡◌, ◌+◌, ◌++◌, map, drop}
use Rattle.cir_meaning.specs.Compile.{shapes_of}
use Rattle.cir_inst.specs.Table.{shape_of}
use Rattle.cir_inst.proofs.Tables.{rows_in, total_of}
use Rattle.cir_inst.proofs.table.add_inputs.Given as goal

abbrev pub invariant-loop-row : goal.invariant-loop-row
invariant-loop-row l = record {
  next : l.next + total_of (rows_in l.group (drop l.row-index l.rows))
      ≡ l.first + total_of (rows_in l.group l.rows);
  shapes : map shape_of l.inputs.items
      ++ shapes_of l.next (rows_in l.group (drop l.row-index l.rows))
      ≡ map shape_of l.initial.inputs.items ++ shapes_of l.first (rows_in l.group l.rows);
}
