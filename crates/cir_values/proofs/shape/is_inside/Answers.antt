use Rattle.std.proofs.Common.{arith}
use Rattle.cir_values.proofs.Rows.{inside_lengths}
use Rattle.cir_values.proofs.shape.is_inside.Goals as goal

pub returns-then-dims-index : goal.returns-then-dims-index
returns-then-dims-index c =
    (λ e. cc, λ h. absurd (omega (arith, inside_lengths c.args.dims.now c.args.index.now h)))
