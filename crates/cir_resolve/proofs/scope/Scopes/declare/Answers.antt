use Rattle.std.proofs.Common.{rules, refl}
use Rattle.cir_resolve.specs.Answers.{state_of}
use Rattle.cir_resolve.proofs.scope.Scopes.declare.Goals as goal

pub returns-then-is_some-clause-named : goal.returns-then-is_some-clause-named
unfolding state_of
returns-then-is_some-clause-named c =
    rw (← c.get.ensures, ← c.is_some.ensures, c.if-is_some.true) refl

pub returns-clause-named : goal.returns-clause-named
unfolding state_of
returns-clause-named c =
    let up = c.count.ensures.counted (search rules) in
    rw (← c.get.ensures, ← c.is_some.ensures, c.if-is_some.false, ← up)
    (rw (← c.in_ok-name.ensures.items, ← c.in_ok-push.ensures) refl)
