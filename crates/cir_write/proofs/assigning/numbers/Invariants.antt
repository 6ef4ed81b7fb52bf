use Rattle.std.proofs.Common.{◌≡◌}
use Rattle.cir_meaning.specs.Places.{numbers_from}
use Rattle.cir_write.proofs.assigning.numbers.Given as goal

abbrev pub invariant-loop-at : goal.invariant-loop-at
invariant-loop-at l = l.numbers ≡ numbers_from l.first l.at
