use Rattle.cir_meaning.specs.Compile.{group_size}
use Rattle.cir_steps.proofs.Resolved.{templates}
use Rattle.cir_steps.proofs.SmallLaw.{circuit_small}
use Rattle.cir_steps.proofs.laws.circuits_are_small.Goals as goal

pub returns-clause-cells : goal.returns-clause-cells
returns-clause-cells c = λ p b resolved e.
    (circuit_small group_size p (templates p resolved) b e).0

pub returns-clause-steps : goal.returns-clause-steps
returns-clause-steps c = λ p b resolved e.
    (circuit_small group_size p (templates p resolved) b e).1
