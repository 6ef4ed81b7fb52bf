use Rattle.std.proofs.Common.{◌≡◌, take}
use Rattle.cir_arrays.proofs.values.copies.Given as goal

abbrev pub invariant-loop-v : goal.invariant-loop-v
invariant-loop-v l = l.all.items ≡ take l.v-index l.values
