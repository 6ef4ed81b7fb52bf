use Rattle.std.proofs.Common.{◌≡◌}
use Rattle.cir_meaning.specs.Places.{numbers_from}
use Rattle.cir_write.proofs.assigning.all_places.Given as goal

abbrev pub invariant-loop-at : goal.invariant-loop-at
invariant-loop-at l = l.places.items ≡ numbers_from 0 l.at
