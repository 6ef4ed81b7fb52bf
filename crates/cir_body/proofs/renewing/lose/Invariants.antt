use Rattle.std.proofs.Common.{List, drop}
use Rattle.cir_make.specs.declared.cells.VariableCells.{VariableCells}
use Rattle.cir_body.specs.Renewed.{AreLost}
use Rattle.cir_body.proofs.renewing.lose.Given as goal

abbrev pub invariant-loop-n : goal.invariant-loop-n
invariant-loop-n l =
    (new : List VariableCells) → AreLost (drop l.n-index l.declared) l.variables.items new
    → AreLost l.declared l.initial.variables.items new
