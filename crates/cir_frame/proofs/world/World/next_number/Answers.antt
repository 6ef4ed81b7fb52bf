use Rattle.std.proofs.Common.{arith}
use Rattle.cir_meaning.specs.Compile.{group_size}
use Rattle.cir_frame.proofs.world.World.next_number.Goals as goal

pub returns : goal.returns
unfolding group_size
returns c =
    rw (
      c.from-3.ensures,
      c.from-4.ensures,
      c.of.ensures,
      c.place.ensures,
      c.from.ensures,
      c.from-2.ensures,
    ) (omega arith)
