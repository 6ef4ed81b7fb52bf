use Rattle.std.proofs.Common.{◌≡◌, ◌++◌, ◌-◌, map}
use Rattle.cir_frame.specs.Shown.{row_of}
use Rattle.cir_meaning.specs.Compile.{names_of_row}
use Rattle.cir_inst.specs.Table.{name_of}
use Rattle.cir_inst.proofs.Tables.{names_from}
use Rattle.cir_inst.proofs.table.add_row.Given as goal

abbrev pub invariant-loop-place : goal.invariant-loop-place
invariant-loop-place l =
    map name_of l.names.items ++ names_from (row_of l.row) l.place (l.place-end - l.place)
    ≡ map name_of l.initial.names.items ++ names_of_row (row_of l.row)
