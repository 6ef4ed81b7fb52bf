use Rattle.std.proofs.Common.{◌+◌, ◌*◌, ◌%◌, get_or, refl, ap, ◌∙◌, arith}
use Rattle.gold_field.specs.declared.gold.TheConstants.{P}
use Rattle.lig_auditor.proofs.Adding.{read, scaled}
use Rattle.lig_auditor.proofs.right_sides.sum_of_values.Goals as goal

pub returns : goal.returns
returns c =
    let f = c.args.polynomial.now in
    let l = c.args.l in
    let zeroth =
    read f f 0 c.index-polynomial-0.result refl (omega arith) c.index-polynomial-0.is in
    let first =
    read f f l c.index-polynomial-width.result refl (omega arith) c.index-polynomial-width.is in
    let second =
    read f f (2 * l) c.index-polynomial-width-2.result refl
    (omega arith) c.index-polynomial-width-2.is in
    scaled l (get_or f 0 0) (get_or f l 0) (get_or f (2 * l) 0) c.add-others.result c.add-sum.result
    c.from_wide.result c.mul.result
    (c.add-others.ensures ∙ ap (λ x. (x + c.index-polynomial-width-2.result) % P) first
    ∙ ap (λ x. (get_or f l 0 + x) % P) second)
    (c.add-sum.ensures ∙ ap (λ x. (x + c.add-others.result) % P) zeroth)
    (c.from_wide.ensures ∙ ap (λ x. x % P) c.from.ensures) c.mul.ensures
