use Rattle.std.proofs.Common.{◌≡◌, length}
use Rattle.cir_resolve.specs.Answers.{newest_in}
use Rattle.cir_resolve.proofs.names.newest_in.Given as goal

-- what the name means among those that are left
abbrev pub invariant-loop-newest : goal.invariant-loop-newest
invariant-loop-newest l = newest_in l.left l.name ≡ newest_in l.few l.name

abbrev pub decreases-loop-newest : goal.decreases-loop-newest
decreases-loop-newest l = length l.left
