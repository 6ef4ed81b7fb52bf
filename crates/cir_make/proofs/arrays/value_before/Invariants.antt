use Rattle.std.proofs.Common.{◌≡◌, drop}
use Rattle.cir_arrays.specs.Shown.{datum_of}
use Rattle.cir_make.specs.Arrays.{value_behind}
use Rattle.cir_make.proofs.arrays.value_before.Given as goal

abbrev pub invariant-loop-before : goal.invariant-loop-before
invariant-loop-before l =
    value_behind (drop l.before-index l.befores) l.n (datum_of l.value)
    ≡ value_behind l.befores l.n (datum_of l.first)
