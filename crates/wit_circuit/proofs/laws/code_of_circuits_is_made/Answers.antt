use Rattle.cir_emit.proofs.SoundBodies.{circuit_sound}
use Rattle.wit_circuit.proofs.Coded.{all_made}
use Rattle.wit_circuit.proofs.laws.code_of_circuits_is_made.Goals as goal

pub returns : goal.returns
returns c = λ p b keys procs code resolved places counts is are table.
    all_made p keys procs table b.steps code
    (circuit_sound p resolved places counts b is) are
