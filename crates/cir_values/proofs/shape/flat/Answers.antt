use Rattle.std.proofs.Common.{sym, subst}
use Rattle.cir_values.specs.Places.{IsInside}
use Rattle.cir_values.proofs.Rows.{none_outside}
use Rattle.cir_values.proofs.shape.flat.Goals as goal

pub returns-then-not-is_inside : goal.returns-then-not-is_inside
returns-then-not-is_inside c =
    sym (none_outside c.args.shape.now.dims c.args.index.now (λ h.
    let yes =
    c.is_inside.ensures.1
    (subst (λ ds. IsInside ds c.args.index.now) (sym c.as_slice-dims.ensures) h) in
    cc))
