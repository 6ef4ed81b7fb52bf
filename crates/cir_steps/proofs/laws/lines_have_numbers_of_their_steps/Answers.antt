use Rattle.cir_meaning.specs.Compile.{group_size}
use Rattle.cir_steps.proofs.Resolved.{templates}
use Rattle.cir_steps.proofs.LineLaw.{circuit_lines}
use Rattle.cir_steps.proofs.laws.lines_have_numbers_of_their_steps.Goals as goal

pub returns : goal.returns
returns c = λ p b resolved e. circuit_lines group_size p (templates p resolved) b e
