use Rattle.circom_named.proofs.Wired.{AreFirst}
use Rattle.circom_named.proofs.naming.first_lines.Given as goal

abbrev pub invariant-loop-place : goal.invariant-loop-place
invariant-loop-place l = AreFirst l.lines l.place l.wires l.first.items

abbrev pub decreases-loop-place : goal.decreases-loop-place
decreases-loop-place l = l.place
