use Rattle.std.proofs.Common.{arith}
use Rattle.cir_meaning.specs.Compile.{group_size}
use Rattle.cir_assign.proofs.terms.all_numbers.Goals as goal

pub returns : goal.returns
unfolding group_size
returns c = omega (arith, c.from.ensures)
