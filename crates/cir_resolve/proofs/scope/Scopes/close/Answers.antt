use Rattle.std.proofs.Common.{sym, ◌∙◌}
use Rattle.cir_resolve.specs.Answers.{state_of}
use Rattle.cir_resolve.proofs.Nesting.{last_of}
use Rattle.cir_resolve.proofs.scope.Scopes.close.Goals as goal

pub returns-in-Some-clause-state : goal.returns-in-Some-clause-state
unfolding state_of
returns-in-Some-clause-state c = λ around inside.
    let same = last_of _ _ _ _ (sym c.in-Some.ensures.items ∙ inside.outer) in cc
