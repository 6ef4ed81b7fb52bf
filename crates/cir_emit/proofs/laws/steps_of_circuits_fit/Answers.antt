use Rattle.cir_meaning.proofs.KnownCalls.{all_get}
use Rattle.cir_emit.proofs.MadeSteps.{IsSound}
use Rattle.cir_emit.proofs.SoundBodies.{circuit_sound}
use Rattle.cir_emit.proofs.laws.steps_of_circuits_fit.Goals as goal

pub returns : goal.returns
returns c = λ p b keys i step sources resolved places counts is there are.
    all_get IsSound b.steps i step (circuit_sound p resolved places counts b is) there
    keys sources are
