use Rattle.std.proofs.Common.{refl}
use Rattle.cir_resolve.specs.Answers.{state_of}
use Rattle.cir_resolve.proofs.scope.Scopes.variable.Goals as goal

pub returns-clause-named : goal.returns-clause-named
unfolding state_of
returns-clause-named c =
    rw (← c.as_slice.ensures, c.in_ok-declare.ensures.named)
    (rw (← c.name_all.ensures.named, ← c.value.ensures) refl)
