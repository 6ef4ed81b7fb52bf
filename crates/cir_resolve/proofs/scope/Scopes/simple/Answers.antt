use Rattle.std.proofs.Common.{refl}
use Rattle.cir_resolve.specs.Answers.{state_of}
use Rattle.cir_resolve.proofs.scope.Scopes.simple.Goals as goal

pub returns-in_ok-declare-in-Created-clause-named :
    goal.returns-in_ok-declare-in-Created-clause-named
unfolding state_of
returns-in_ok-declare-in-Created-clause-named c =
    rw (c.in-Components.is, c.in-Created.is, ← c.as_slice.ensures)
    (rw (c.in_ok-declare-in-Created.ensures.named, ← c.name.ensures) refl)
