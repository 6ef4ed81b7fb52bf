use Rattle.std.proofs.Common.{◌<◌, ap, arith, length, sym}
use Rattle.cir_make.specs.declared.cells.VariableCells.{VariableCells}
use Rattle.cir_meaning.proofs.PartWrites.{get_other}
use Rattle.cir_body.proofs.Renewals.{none_there, set_there}
use Rattle.cir_body.proofs.renewing.lose_one.Goals as goal

pub returns-then-n-len-clause-others : goal.returns-then-n-len-clause-others
returns-then-n-len-clause-others c = λ m ne.
    get_other c.args.variables.now.items c.args.n m _ (λ e. ne (sym e))

pub returns-then-n-len-clause-itself : goal.returns-then-n-len-clause-itself
returns-then-n-len-clause-itself c = λ v there.
    let h : c.args.n < length c.args.variables.now.items =
    omega (arith, c.if-n-len.true, c.len.ensures) in
    ap (λ (z : VariableCells). z.is_lost)
    (sym (set_there c.args.variables.now.items c.args.n c.index_mut.result.now _ v h
    c.index_mut.ensures.value there))

pub returns-else-n-len-clause-itself : goal.returns-else-n-len-clause-itself
returns-else-n-len-clause-itself c = λ v there.
    absurd (none_there c.args.variables.now.items c.args.n v
    (λ h. omega (arith, h, c.if-n-len.false, c.len.ensures)) there)
