use Rattle.std.proofs.Common.{◌≡◌, drop, length, None, replicate}
use Rattle.cir_homes.specs.Filled.{IsLeft}
use Rattle.cir_homes.proofs.filling.put_all.Given as goal

abbrev pub invariant-loop-row : goal.invariant-loop-row
invariant-loop-row l =
    l.initial.found ≡ replicate (length l.initial.found) None
    → IsLeft l.homes (drop l.row-index l.homes) l.first (length l.initial.found) l.found
