use Rattle.lig_auditor.proofs.Matching.{ZeroTo}
use Rattle.lig_auditor.proofs.products.quad_zero.Given as goal

abbrev pub invariant-loop-t : goal.invariant-loop-t
invariant-loop-t l = ZeroTo l.opening l.t
