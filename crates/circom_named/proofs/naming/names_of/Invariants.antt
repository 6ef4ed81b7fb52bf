use Rattle.std.proofs.Common.{◌≡◌, map, take}
use Rattle.circom_named.specs.Named.{name_of}
use Rattle.circom_named.proofs.naming.names_of.Given as goal

abbrev pub invariant-loop-wire : goal.invariant-loop-wire
invariant-loop-wire l =
    l.names.items ≡ map (name_of l.lines) (take l.wire-index l.wire-items)
