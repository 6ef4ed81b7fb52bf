use Rattle.std.proofs.Common.{◌≡◌, map, slice_index, take}
use Rattle.wit_run.proofs.wires.values_by_wire.Given as goal

abbrev pub invariant-loop-label : goal.invariant-loop-label
invariant-loop-label l = l.values.items ≡ map (slice_index l.numbers) (take l.label-index l.labels)
