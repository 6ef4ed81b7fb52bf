use Rattle.std.proofs.Common.{◌≡◌, ◌++◌}
use Rattle.std.specs.Prelude.{map, replicate}
use Rattle.cir_meaning.specs.Arrays.{single}
use Rattle.cir_meaning.specs.Values.{Known}
use Rattle.cir_arrays.specs.Shown.{datum_of}
use Rattle.cir_declare.proofs.declaring.begun.Given as goal

abbrev pub invariant-loop-n : goal.invariant-loop-n
invariant-loop-n l =
    map datum_of l.variables.items
    ≡ map datum_of l.initial.variables.items ++ replicate l._n (single (Known 0))
