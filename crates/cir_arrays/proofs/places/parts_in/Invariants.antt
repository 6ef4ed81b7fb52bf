use Rattle.std.proofs.Common.{◌≡◌, take}
use Rattle.std.specs.Prelude.{flat_map}
use Rattle.cir_arrays.specs.Reached.{parts_at}
use Rattle.cir_arrays.proofs.places.parts_in.Given as goal

abbrev pub invariant-loop-first : goal.invariant-loop-first
invariant-loop-first l =
    l.parts.items ≡ flat_map (parts_at l.dimension l.index l.rest) (take l.first-index l.firsts)
