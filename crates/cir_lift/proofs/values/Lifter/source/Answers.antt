use Rattle.cir_ast.specs.Tree.{bare_target}
use Rattle.cir_lift.proofs.Listed.{values_lifted}
use Rattle.cir_lift.proofs.values.Lifter.source.Goals as goal

pub returns-in_ok-elements-in-Tuple : goal.returns-in_ok-elements-in-Tuple
returns-in_ok-elements-in-Tuple c =
    values_lifted c.args.self.now c.exprs.new.self (bare_target c.args.target.now)
    c.args.source.now _ _ _ c.in-Tuple.is c.as_slice.ensures c.in_ok-elements-in-Tuple.ensures
