use Rattle.std.proofs.Common.{◌+◌}
use Rattle.cir_determined.proofs.Marking.{AreOpening}
use Rattle.cir_determined.proofs.marks.opening.Given as goal

abbrev pub invariant-loop-wire : goal.invariant-loop-wire
invariant-loop-wire l = AreOpening l.outputs (l.outputs + l.inputs) l.wire l.marks.items
