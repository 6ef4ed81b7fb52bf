use Rattle.std.proofs.Common.{◌≡◌, ◌++◌, map, drop}
use Rattle.cir_inst.specs.Table.{name_of}
use Rattle.cir_inst.proofs.Tables.{names_in}
use Rattle.cir_inst.proofs.table.add_names.Given as goal

abbrev pub invariant-loop-row : goal.invariant-loop-row
invariant-loop-row l =
    map name_of l.names.items ++ names_in l.group (drop l.row-index l.rows)
    ≡ map name_of l.initial.names.items ++ names_in l.group l.rows
