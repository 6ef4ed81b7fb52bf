use Rattle.std.proofs.Common.{◌≡◌, drop}
use Rattle.cir_ast.specs.Tree.{bare_exprs, as_accessors}
use Rattle.cir_meaning.specs.Reached.{any_misplaced, argument_misplaced, index_misplaced}
use Rattle.cir_texts.proofs.literals.+misplacing.Given as goal

abbrev pub invariant-any_misplaced-loop-e : goal.invariant-any_misplaced-loop-e
invariant-any_misplaced-loop-e l =
    any_misplaced (bare_exprs (drop l.e-index l.es)) ≡ any_misplaced (bare_exprs l.es)

abbrev pub invariant-argument_misplaced-loop-e : goal.invariant-argument_misplaced-loop-e
invariant-argument_misplaced-loop-e l =
    argument_misplaced (bare_exprs (drop l.e-index l.es)) ≡ argument_misplaced (bare_exprs l.es)

abbrev pub invariant-index_misplaced-loop-accessor : goal.invariant-index_misplaced-loop-accessor
invariant-index_misplaced-loop-accessor l =
    index_misplaced (as_accessors (drop l.accessor-index l.accessors))
    ≡ index_misplaced (as_accessors l.accessors)
