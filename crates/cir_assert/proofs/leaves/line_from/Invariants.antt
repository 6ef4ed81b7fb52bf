use Rattle.std.proofs.Common.{◌≡◌, ◌+◌, ◌++◌, map}
use Rattle.cir_meaning.specs.Places.{numbers_from}
use Rattle.cir_meaning.specs.Steps.{logged_cells}
use Rattle.cir_steps.specs.Making.{log_parts}
use Rattle.wit_circuit.specs.Whole.{part_of}
use Rattle.cir_assert.proofs.LogSteps.{arguments_from}
use Rattle.cir_assert.proofs.leaves.line_from.Given as goal

-- what is in the line, with what is left, is all
abbrev pub invariant-loop-argument : goal.invariant-loop-argument
invariant-loop-argument l = record {
  parts : l.line.parts
      ++ map part_of (log_parts l.line.next (arguments_from l.arguments l.argument-index))
      ≡ map part_of (log_parts l.first (arguments_from l.arguments 0));
  targets : l.line.targets
      ++ numbers_from l.line.next (logged_cells (arguments_from l.arguments l.argument-index))
      ≡ numbers_from l.first (logged_cells (arguments_from l.arguments 0));
  next : l.line.next + logged_cells (arguments_from l.arguments l.argument-index)
      ≡ l.first + logged_cells (arguments_from l.arguments 0);
}
