use Rattle.std.proofs.Common.{◌+◌, drop}
use Rattle.lig_layout.specs.Sides.{forms}
use Rattle.lig_layout.specs.System.{combined_at, differences}
use Rattle.lig_layout.proofs.Sums.{Owes}
use Rattle.lig_layout.proofs.system.add_side.Given as goal

-- the constraints that are left are still to be added
abbrev pub invariant-loop-k : goal.invariant-loop-k
invariant-loop-k l =
    Owes (λ place. combined_at place (drop l.k l.r)
    (differences (l.start + l.k) (forms l.side (drop l.k l.constraints))))
    (λ place. combined_at place l.r (differences l.start (forms l.side l.constraints)))
    l.initial.row l.row
