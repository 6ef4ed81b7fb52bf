use Rattle.std.proofs.Common.{length, ◌-◌, ◌≤◌}
use Rattle.cir_simplify.proofs.state.skip_to.Given as goal

abbrev pub invariant-loop-place : goal.invariant-loop-place
invariant-loop-place l = l.place ≤ length l.terms

abbrev pub decreases-loop-place : goal.decreases-loop-place
decreases-loop-place l = length l.terms - l.place
