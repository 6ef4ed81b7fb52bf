use Rattle.std.proofs.Common.{drop}
use Rattle.std.specs.Prelude.{◌↔◌}
use Rattle.cir_values.specs.Places.{IsInside}
use Rattle.cir_values.proofs.shape.is_inside.Given as goal

abbrev pub invariant-loop-at : goal.invariant-loop-at
invariant-loop-at l = IsInside (drop l.at l.dims) (drop l.at l.index) ↔ IsInside l.dims l.index
