use Rattle.std.proofs.Common.{drop}
use Rattle.cir_ast.specs.Tree.{bare_exprs}
use Rattle.cir_lift.proofs.Without.{Without}
use Rattle.cir_lift.proofs.holding.+holding.Given as goal

-- where the rest holds none, none is held at all
abbrev pub invariant-any_holds-loop-e : goal.invariant-any_holds-loop-e
invariant-any_holds-loop-e l =
    Without (bare_exprs (drop l.e-index l.es)) → Without (bare_exprs l.es)
