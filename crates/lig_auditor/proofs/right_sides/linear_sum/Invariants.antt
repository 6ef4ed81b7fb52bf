use Rattle.lig_auditor.proofs.RightSums.{SumsTo}
use Rattle.lig_auditor.proofs.right_sides.linear_sum.Given as goal

abbrev pub invariant-loop-t : goal.invariant-loop-t
invariant-loop-t l = SumsTo l.file l.publics l.opening l.t
