use Rattle.std.proofs.Common.{length}
use Rattle.cir_simplify.specs.Index.{IsReady}
use Rattle.cir_simplify.proofs.turn.first_again.Given as goal

abbrev pub invariant-loop-place : goal.invariant-loop-place
invariant-loop-place l = IsReady l.rules l.rows.items l.ready

abbrev pub decreases-loop-place : goal.decreases-loop-place
decreases-loop-place l = length l.ready.again.keys
