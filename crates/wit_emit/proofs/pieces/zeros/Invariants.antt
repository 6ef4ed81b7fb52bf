use Rattle.std.proofs.Common.{◌≡◌, ◌++◌}
use Rattle.wit_lower.specs.Pieces as L
use Rattle.wit_emit.proofs.pieces.zeros.Given as goal

abbrev pub invariant-loop-left : goal.invariant-loop-left
invariant-loop-left l = l.code ++ L.zeros l.at l.left ≡ l.initial.code ++ L.zeros l.to l.count

abbrev pub decreases-loop-left : goal.decreases-loop-left
decreases-loop-left l = l.left
