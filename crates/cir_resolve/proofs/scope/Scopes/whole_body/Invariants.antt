use Rattle.cir_resolve.specs.Definitions.{named_parameter}
use Rattle.cir_resolve.specs.Answers.{state_of}
use Rattle.cir_resolve.proofs.InTurn.{IsPassed}
use Rattle.cir_resolve.proofs.scope.Scopes.whole_body.Given as goal

abbrev pub invariant-loop-parameter : goal.invariant-loop-parameter
invariant-loop-parameter l =
    IsPassed (named_parameter l.spot) (state_of l.fn.self)
    (state_of l.self) l.parameters l.parameter-index
