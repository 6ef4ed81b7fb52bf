use Rattle.std.proofs.Common.{◌≡◌, ◌+◌, drop}
use Rattle.cir_values.specs.Reading.{bracket_at}
use Rattle.cir_values.proofs.names.declared_end.Given as goal

abbrev pub invariant-loop-at : goal.invariant-loop-at
invariant-loop-at l = l.at + bracket_at (drop l.at l.base) ≡ bracket_at l.base
