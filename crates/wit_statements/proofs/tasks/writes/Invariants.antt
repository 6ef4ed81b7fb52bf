use Rattle.std.proofs.Common.{◌≡◌, ◌++◌}
use Rattle.wit_lower.specs.Tasks as T
use Rattle.wit_statements.proofs.tasks.writes.Given as goal

abbrev pub invariant-loop-left : goal.invariant-loop-left
invariant-loop-left l = l.code ++ T.writes l.at l.left ≡ l.initial.code ++ T.writes l.from l.count

abbrev pub decreases-loop-left : goal.decreases-loop-left
decreases-loop-left l = l.left
