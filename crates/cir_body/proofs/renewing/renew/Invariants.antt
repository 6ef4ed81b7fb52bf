use Rattle.std.proofs.Common.{◌≡◌, ◌+◌, List, drop, map}
use Rattle.cir_steps.specs.Making.{count_of}
use Rattle.cir_make.specs.declared.cells.VariableCells.{VariableCells}
use Rattle.cir_make.specs.Steps.{elements_of}
use Rattle.cir_body.specs.Renewed.{AreRenewed}
use Rattle.cir_body.proofs.renewing.renew.Given as goal

-- with what is left to renew, all are
abbrev pub invariant-loop-e : goal.invariant-loop-e
invariant-loop-e l = record {
  cells : (new : List VariableCells) → AreRenewed (map elements_of (drop l.e-index l.wanted))
      l.next l.variables.items new
      → AreRenewed (map elements_of l.wanted) l.first l.initial.variables.items new;
  next : l.next + count_of (map elements_of (drop l.e-index l.wanted))
      ≡ l.first + count_of (map elements_of l.wanted);
}
