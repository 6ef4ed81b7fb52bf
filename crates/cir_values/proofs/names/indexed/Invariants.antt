use Rattle.std.proofs.Common.{◌≡◌, ◌++◌, drop}
use Rattle.cir_values.specs.Names.{brackets}
use Rattle.cir_values.proofs.names.indexed.Given as goal

abbrev pub invariant-loop-i : goal.invariant-loop-i
invariant-loop-i l =
    l.text.items ++ brackets (drop l.i-index l.index) ≡ l.declared ++ brackets l.index
