use Rattle.std.proofs.Common.{◌≡◌, ◌++◌, drop}
use Rattle.cir_ast.specs.Program.{bare_main}
use Rattle.cir_frame.specs.Shown.{signals_of}
use Rattle.cir_steps.specs.Circuit.{input_cells}
use Rattle.cir_make.specs.Cells.{wires_by}
use Rattle.cir_homes.specs.Started.{is_chosen}
use Rattle.cir_homes.proofs.starts.add_inputs.Given as goal

abbrev pub invariant-loop-n : goal.invariant-loop-n
invariant-loop-n l =
    l.starts.items ++ input_cells (is_chosen (bare_main l.main) l.public) (wires_by l.ports) l.n
    (signals_of (drop l.n l.signals))
    ≡ l.initial.starts.items ++ input_cells (is_chosen (bare_main l.main) l.public)
    (wires_by l.ports) 0 (signals_of l.signals)
