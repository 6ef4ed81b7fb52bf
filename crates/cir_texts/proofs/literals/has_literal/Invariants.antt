use Rattle.std.proofs.Common.{◌≡◌, drop}
use Rattle.cir_ast.specs.Tree.{bare_exprs}
use Rattle.cir_meaning.specs.Evaluate.{has_literal}
use Rattle.cir_texts.proofs.literals.has_literal.Given as goal

abbrev pub invariant-loop-e : goal.invariant-loop-e
invariant-loop-e l = has_literal (bare_exprs (drop l.e-index l.es)) ≡ has_literal (bare_exprs l.es)
