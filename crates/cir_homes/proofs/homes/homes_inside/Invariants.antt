use Rattle.std.proofs.Common.{◌≡◌, ◌++◌, drop}
use Rattle.cir_homes.specs.Homed.{part_homes}
use Rattle.cir_homes.proofs.homes.homes_inside.Given as goal

abbrev pub invariant-loop-j : goal.invariant-loop-j
invariant-loop-j l =
    l.homes.items ++ part_homes (drop l.j l.parts) (drop l.j l.cells)
    ≡ part_homes l.parts l.cells
