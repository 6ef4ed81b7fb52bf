use Rattle.std.proofs.Common.{◌<◌, length, arith, sym}
use Rattle.std.proofs.lemmas.Bool.{eqb-false}
use Rattle.std.proofs.lemmas.List.{take_rest}
use Rattle.cir_assign.proofs.LongerSums.{constant_joined}
use Rattle.cir_assign.proofs.growing.add_constant.Goals as goal

pub returns-clause-value : goal.returns-clause-value
returns-clause-value c =
    let some : 0 < length c.args.terms.now.items =
    omega (arith, eqb-false _ _ (sym c.if-is_empty.ensures), c.args.terms.now.ok.0) in
    rw (take_rest c.args.more.now 1)
    (constant_joined c.args.terms.now.items c.args.more.now c.index-old.result.now
    c.first-item.result c.add-coef.result some c.in-len1-up.len_at_least c.index-old.ensures
    c.first-item.is c.if-old-ne0.false c.if-first-ne0.false c.add-coef.ensures)
