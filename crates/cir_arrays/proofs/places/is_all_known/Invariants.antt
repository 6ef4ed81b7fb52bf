use Rattle.std.proofs.Common.{◌≡◌, drop, is_some}
use Rattle.cir_meaning.specs.Places.{all_known}
use Rattle.cir_arrays.proofs.places.is_all_known.Given as goal

abbrev pub invariant-loop-i : goal.invariant-loop-i
invariant-loop-i l = is_some (all_known (drop l.i-index l.indices)) ≡ is_some (all_known l.indices)
