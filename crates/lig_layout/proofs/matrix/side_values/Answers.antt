use Rattle.lig_layout.proofs.Wired.{wired_at}
use Rattle.lig_layout.proofs.matrix.side_values.Goals as goal

pub value_of-requires : goal.value_of-requires
value_of-requires c =
    wired_at _ c.args.constraints.now c.loop-constraint.constraint-index c.constraint-item.result
    c.requires c.loop-constraint-test.true c.constraint-item.is
