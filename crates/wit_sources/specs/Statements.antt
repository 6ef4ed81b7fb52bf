-- The assignment that a statement is.
use Rattle.std.specs.Prelude.{Option, Some, None}
use Rattle.cir_ast.specs.declared.program.Meant.{Meant}
use Rattle.cir_ast.specs.declared.program.Spot.{Spot}
use Rattle.cir_ast.specs.Tree.{Assign, Assigned, Statement, Ended}

abbrev pub assign_in : Statement Spot Meant → Option (Assign Meant)
assign_in (Ended spot (Assigned a)) = Some a
assign_in _ = None
