use Rattle.std.proofs.Common.{refl}
use Rattle.cir_resolve.specs.Answers.{state_of}
use Rattle.cir_resolve.proofs.scope.Scopes.component.Goals as goal

pub returns-clause-named : goal.returns-clause-named
unfolding state_of
returns-clause-named c =
    rw (← c.as_slice.ensures, c.in_ok-declare.ensures.named, ← c.name_all.ensures.named)
    refl
