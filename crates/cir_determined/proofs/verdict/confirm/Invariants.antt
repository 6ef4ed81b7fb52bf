use Rattle.std.proofs.Common.{◌≡◌, take}
use Rattle.cir_determined.proofs.Verdicts.{HasShown}
use Rattle.cir_determined.proofs.verdict.confirm.Given as goal

abbrev pub invariant-loop-rule : goal.invariant-loop-rule
invariant-loop-rule l = HasShown (record {
  constraints = l.constraints;
  wires = l.wires;
  outputs = l.outputs;
  inputs = l.inputs;
}) (take l.rule-index l.rules) l.marks.items × (l.index ≡ l.rule-index)
