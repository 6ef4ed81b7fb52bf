use Rattle.std.proofs.Common.{◌≡◌, ◌++◌, drop, map}
use Rattle.wit_sourced.specs.Loads.{shape_of}
use Rattle.cir_make.specs.Arrays.{shape_by}
use Rattle.cir_make.proofs.told.shapes.Given as goal

abbrev pub invariant-loop-array : goal.invariant-loop-array
invariant-loop-array l =
    map shape_of l.shapes.items ++ map shape_by (drop l.array-index l.arrays)
    ≡ map shape_by l.arrays
