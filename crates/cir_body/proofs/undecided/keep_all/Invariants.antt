use Rattle.std.proofs.Common.{◌≡◌, List, drop, map}
use Rattle.cir_meaning.specs.Arrays.{Datum}
use Rattle.cir_arrays.specs.Shown.{datum_of}
use Rattle.cir_make.specs.Steps.{put_before}
use Rattle.cir_body.specs.Undone.{put_back}
use Rattle.cir_body.proofs.undecided.keep_all.Given as goal

abbrev pub invariant-loop-n : goal.invariant-loop-n
invariant-loop-n l =
    (ds : List Datum) → put_back (drop l.n-index l.variables)
    (map datum_of l.frame.variables.items) (put_before l.befores.items ds)
    ≡ put_back l.variables (map datum_of l.frame.variables.items)
    (put_before l.initial.befores.items ds)
