use Rattle.std.proofs.Common.{◌≡◌, length}
use Rattle.cir_resolve.specs.Answers.{nested}
use Rattle.cir_resolve.proofs.scope.nested.Given as goal

-- what the name means in the blocks that are left
abbrev pub invariant-loop-names : goal.invariant-loop-names
invariant-loop-names l = nested l.left l.name ≡ nested l.blocks l.name

abbrev pub decreases-loop-names : goal.decreases-loop-names
decreases-loop-names l = length l.left
