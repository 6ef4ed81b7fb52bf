use Rattle.std.proofs.Common.{◌≡◌, map, take, slice_index}
use Rattle.gold_field.specs.Form.{value_at}
use Rattle.lig_layout.specs.Sides.{form_of}
use Rattle.lig_layout.proofs.matrix.side_values.Given as goal

-- the values of the constraints so far
abbrev pub invariant-loop-constraint : goal.invariant-loop-constraint
invariant-loop-constraint l =
    l.values.items
    ≡ map (λ k. value_at (slice_index l.w) (form_of l.side k))
    (take l.constraint-index l.constraints)
