use Rattle.std.proofs.Common.{refl}
use Rattle.std.proofs.lemmas.List.{map-set}
use Rattle.cir_values.specs.Meant.{meant}
use Rattle.cir_arrays.proofs.arrays.Datum.set.Goals as goal

pub returns-then-place-len : goal.returns-then-place-len
returns-then-place-len c =
    rw (c.in-Array.is, map-set meant c.in-Array.array.items.items c.args.place c.args.new) refl
