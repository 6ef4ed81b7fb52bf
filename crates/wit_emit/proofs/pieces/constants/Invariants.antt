use Rattle.std.proofs.Common.{◌≡◌, ◌++◌, drop}
use Rattle.wit_lower.specs.Pieces as L
use Rattle.wit_emit.proofs.pieces.constants.Given as goal

abbrev pub invariant-loop-n : goal.invariant-loop-n
invariant-loop-n l =
    l.code ++ L.constants l.at (drop l.n-index l.numbers)
    ≡ l.initial.code ++ L.constants l.to l.numbers
