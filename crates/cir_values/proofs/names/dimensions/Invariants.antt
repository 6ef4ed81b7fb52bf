use Rattle.std.proofs.Common.{◌≡◌, drop, []}
use Rattle.cir_values.specs.Reading.{read_from}
use Rattle.cir_values.proofs.names.dimensions.Given as goal

abbrev pub invariant-loop-b : goal.invariant-loop-b
invariant-loop-b l =
    read_from (drop l.b-index l.bytes) l.number l.dims.items ≡ read_from l.bytes 0 []
