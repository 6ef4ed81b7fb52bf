use Rattle.std.proofs.Common.{◌≡◌, ◌++◌}
use Rattle.wit_lower.specs.Pieces as L
use Rattle.wit_emit.proofs.pieces.moves.Given as goal

abbrev pub invariant-loop-left : goal.invariant-loop-left
invariant-loop-left l =
    l.code ++ L.moves l.to l.from l.left ≡ l.initial.code ++ L.moves l.to l.from l.count

abbrev pub decreases-loop-left : goal.decreases-loop-left
decreases-loop-left l = l.left
