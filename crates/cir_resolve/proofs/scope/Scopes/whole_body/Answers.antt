use Rattle.std.proofs.Common.{arith, refl}
use Rattle.cir_resolve.specs.Definitions.{named_parameter}
use Rattle.cir_resolve.specs.Answers.{state_of}
use Rattle.cir_resolve.proofs.InTurn.{passed_more}
use Rattle.cir_resolve.proofs.scope.Scopes.whole_body.Goals as goal

pub loop-parameter-preserved : goal.loop-parameter-preserved
unfolding state_of
loop-parameter-preserved c =
    passed_more (named_parameter c.args.spot) _ _ _ _ _ c.parameter-item.result
    c.loop-parameter.invariant (omega arith) c.parameter-item.is
    (rw (← c.as_slice.ensures, c.in_ok-declare.ensures.named) refl)
