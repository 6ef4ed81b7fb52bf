use Rattle.std.proofs.Common.{◌∙◌, sym}
use Rattle.cir_ast.specs.Tree.{bare}
use Rattle.cir_lift.proofs.Listed.{single_same}
use Rattle.cir_lift.proofs.holding.single_holds.Goals as goal

pub returns : goal.returns
returns c = λ none p first n target.
    single_same (bare c.args.e.now) target p first n
    (sym c.is_parentheses.ensures ∙ c.if-is_parentheses.false)
    (c.expr_holds.ensures none p first n)
