use Rattle.std.proofs.Common.{◌≡◌}
use Rattle.std.specs.Prelude.{map, replicate}
use Rattle.cir_values.specs.Meant.{meant}
use Rattle.cir_arrays.specs.Shown.{filling_of}
use Rattle.cir_arrays.proofs.values.fillings.Given as goal

abbrev pub invariant-loop-k : goal.invariant-loop-k
invariant-loop-k l = map meant l.all.items ≡ replicate l._k (filling_of l.with)
