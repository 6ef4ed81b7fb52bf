use Rattle.std.proofs.Common.{◌≡◌, ◌++◌, drop}
use Rattle.cir_homes.specs.Homed.{entry_homes}
use Rattle.cir_homes.proofs.homes.add_signal.Given as goal

abbrev pub invariant-loop-row : goal.invariant-loop-row
invariant-loop-row l =
    l.homes.items ++ entry_homes l.entry (drop l.row-index l.rows)
    ≡ l.initial.homes.items ++ entry_homes l.entry l.rows
