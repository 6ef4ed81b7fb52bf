use Rattle.std.proofs.Common.{◌<◌, arith, length, refl}
use Rattle.cir_write.proofs.CodeSources.{has_cells, no_cells}
use Rattle.cir_write.proofs.assigning.put_cells.Goals as goal

pub returns-in_ok-put_all-clause-cells : goal.returns-in_ok-put_all-clause-cells
returns-in_ok-put_all-clause-cells c =
    let h : c.args.n < length c.args.variables.now.items =
    omega (arith, c.if-n-len.true, c.len.ensures) in
    has_cells c.args.n c.args.first c.args.places.now c.args.variables.now.items
    c.index_mut.result.now _ h c.index_mut.ensures.value refl c.in_ok-put_all.ensures

pub returns-else-n-len-clause-cells : goal.returns-else-n-len-clause-cells
returns-else-n-len-clause-cells c =
    no_cells c.args.n c.args.first c.args.places.now c.args.variables.now.items
    (λ h. omega (arith, h, c.if-n-len.false, c.len.ensures))
