use Rattle.std.proofs.Common.{◌<◌, arith, length}
use Rattle.cir_make.specs.Steps.{elements_of}
use Rattle.cir_body.proofs.Renewals.{has_new, none_new}
use Rattle.cir_body.proofs.renewing.renew_one.Goals as goal

pub returns-in_ok-fill-clause-cells : goal.returns-in_ok-fill-clause-cells
returns-in_ok-fill-clause-cells c =
    let h : c.args.e.variable < length c.args.variables.now.items =
    omega (arith, c.if-e-len.true, c.len.ensures) in
    has_new (elements_of c.args.e) c.args.first c.args.variables.now.items
    c.index_mut.result.now _ h c.index_mut.ensures.value c.in_ok-fill.ensures

pub returns-else-e-len-clause-cells : goal.returns-else-e-len-clause-cells
returns-else-e-len-clause-cells c =
    none_new (elements_of c.args.e) c.args.first c.args.variables.now.items
    (λ h. omega (arith, h, c.if-e-len.false, c.len.ensures))
