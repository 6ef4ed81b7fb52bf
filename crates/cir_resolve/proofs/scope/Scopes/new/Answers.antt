use Rattle.std.proofs.Common.{refl}
use Rattle.cir_resolve.specs.Answers.{state_of}
use Rattle.cir_resolve.proofs.Nesting.{nested_none}
use Rattle.cir_resolve.proofs.scope.Scopes.new.Goals as goal

pub returns : goal.returns
unfolding state_of
returns c = rw (c.new.ensures.items, nested_none, c.new-2.ensures) refl
