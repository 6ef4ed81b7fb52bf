use Rattle.cir_meaning.specs.Compile.{group_size}
use Rattle.cir_steps.proofs.Total.{circuit_total}
use Rattle.cir_steps.proofs.Resolved.{templates}
use Rattle.cir_steps.proofs.laws.compiled_programs_have_circuits.Goals as goal

pub returns : goal.returns
returns c = λ p k resolved e. circuit_total group_size p (templates p resolved) k e
