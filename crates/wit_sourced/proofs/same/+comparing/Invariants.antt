use Rattle.std.proofs.Common.{◌≡◌, drop}
use Rattle.cir_ast.specs.Tree.{as_accessors, bare_exprs}
use Rattle.wit_sourced.specs.Same.{same_accessors, same_exprs}
use Rattle.wit_sourced.proofs.same.+comparing.Given as goal

abbrev pub invariant-are_same-loop-e : goal.invariant-are_same-loop-e
invariant-are_same-loop-e l =
    same_exprs (bare_exprs (drop l.e-index l.a)) (bare_exprs l.rest)
    ≡ same_exprs (bare_exprs l.a) (bare_exprs l.b)

abbrev pub invariant-are_same_accessors-loop-accessor :
    goal.invariant-are_same_accessors-loop-accessor
invariant-are_same_accessors-loop-accessor l =
    same_accessors (as_accessors (drop l.accessor-index l.a)) (as_accessors l.rest)
    ≡ same_accessors (as_accessors l.a) (as_accessors l.b)
