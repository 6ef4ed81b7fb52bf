use Rattle.std.proofs.Common.{◌-◌, length, drop}
use Rattle.lig_layout.specs.System.{combined_at, wire_forms}
use Rattle.lig_layout.proofs.Sums.{Owes}
use Rattle.lig_layout.proofs.system.add_wires.Given as goal

-- the wires that are left are still to be added
abbrev pub invariant-loop-wire : goal.invariant-loop-wire
invariant-loop-wire l =
    Owes (λ place. combined_at place (drop l.wire l.r) (wire_forms l.wire (length l.r - l.wire)))
    (λ place. combined_at place l.r (wire_forms 0 (length l.r))) l.initial.row l.row
