-- Sizes that a file may have.
use Rattle.std.specs.Prelude.{◌+◌, ◌≤◌}
use Rattle.iden_files.specs.declared.sizes.Sizes.{Sizes}
use Rattle.iden_files.specs.Limits.{most_wires, most_constraints}

pub record AreAllowed (s : Sizes) : Type 0 where
  pub wires : s.wires ≤ most_wires
  pub constraints : s.constraints ≤ most_constraints
  pub numbered : 1 + s.outputs + s.public_inputs + s.private_inputs ≤ s.wires
