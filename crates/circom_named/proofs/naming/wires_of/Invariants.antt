use Rattle.circom_named.proofs.Wired.{AreFound}
use Rattle.circom_named.proofs.naming.wires_of.Given as goal

abbrev pub invariant-loop-wire : goal.invariant-loop-wire
invariant-loop-wire l = AreFound l.constraint l.wires l.wire l.marks.items l.found.items
