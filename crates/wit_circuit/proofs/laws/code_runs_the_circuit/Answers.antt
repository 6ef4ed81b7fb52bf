use Rattle.wit_circuit.proofs.Following.{runs_as}
use Rattle.wit_circuit.proofs.laws.code_runs_the_circuit.Goals as goal

pub returns : goal.returns
returns c = λ p procs steps code starts inputs fuel made wide behind lines once never.
    runs_as p procs steps code starts inputs fuel made wide behind lines once never
