use Rattle.std.proofs.Common.{◌*◌, ◌-◌, length}
use Rattle.cir_determined.proofs.Verdicts.{HasShown}
use Rattle.cir_determined.proofs.search.determine.Given as goal

abbrev pub invariant-loop-rules : goal.invariant-loop-rules
invariant-loop-rules l = HasShown (record {
  constraints = l.constraints;
  wires = l.wires;
  outputs = l.outputs;
  inputs = l.inputs;
}) l.rules.items l.marks.items

abbrev pub decreases-loop-rules : goal.decreases-loop-rules
decreases-loop-rules l = 2 * l.wires - length l.rules.items
