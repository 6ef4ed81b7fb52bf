use Rattle.std.proofs.Common.{rules}
use Rattle.gold_ntt.specs.Polynomial.{IsProduct}
use Rattle.gold_ntt.proofs.Products.{value_of_product}
use Rattle.gold_ntt.proofs.polynomial.mul.Goals as goal

pub returns-then-is_empty-clause-values : goal.returns-then-is_empty-clause-values
returns-then-is_empty-clause-values c = λ x.
    let product : IsProduct c.args.a.now c.args.b.now c.new.result.items = search rules in
    value_of_product c.args.a.now c.args.b.now c.new.result.items x product

pub returns-clause-values : goal.returns-clause-values
returns-clause-values c = λ x.
    value_of_product c.args.a.now c.args.b.now c.in_ok-product.product.items x
    c.in_ok-product.ensures.product
