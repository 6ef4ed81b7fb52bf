use Rattle.std.proofs.Common.{arith}
use Rattle.cir_meaning.specs.Compile.{group_size}
use Rattle.cir_homes.proofs.filling.first_number.Goals as goal

pub returns : goal.returns
unfolding group_size
returns c = rw (c.from.ensures, c.from-2.ensures, c.place.ensures) (omega arith)
