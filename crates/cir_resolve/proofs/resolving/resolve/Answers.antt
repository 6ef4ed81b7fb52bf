use Rattle.std.proofs.Common.{arith, refl}
use Rattle.cir_resolve.specs.Definitions.{bare_definition}
use Rattle.cir_resolve.proofs.InTurn.{given_more}
use Rattle.cir_resolve.proofs.resolving.resolve.Goals as goal

pub loop-i-preserved : goal.loop-i-preserved
loop-i-preserved c =
    given_more bare_definition _ _ _ _ _ _ _ _ c.index_mut.result.now c.definition.new.definition
    c.loop-i.invariant (omega arith) c.index_mut.ensures.value refl c.in_ok-definition.ensures
