use Rattle.cir_meaning.specs.Compile.{group_size}
use Rattle.cir_steps.proofs.OnceLaw.{circuit_once}
use Rattle.cir_steps.proofs.Resolved.{templates}
use Rattle.cir_steps.proofs.laws.cells_are_written_once.Goals as goal

pub returns : goal.returns
returns c = λ p b resolved e. circuit_once group_size p (templates p resolved) b e
