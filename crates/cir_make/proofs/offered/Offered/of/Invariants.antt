use Rattle.std.proofs.Common.{map, take}
use Rattle.wit_sourced.specs.Ends.{AreEnds}
use Rattle.wit_sourced.specs.Order.{key_cmp}
use Rattle.cir_make.specs.Arrays.{array_key}
use Rattle.cir_make.proofs.offered.Offered.of.Given as goal

abbrev pub invariant-loop-place : goal.invariant-loop-place
invariant-loop-place l = AreEnds key_cmp l.ends (map array_key (take l.place l.arrays))
