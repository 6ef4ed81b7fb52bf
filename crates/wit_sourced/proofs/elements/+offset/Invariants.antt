use Rattle.std.proofs.Common.{length}
use Rattle.wit_sourced.proofs.elements.+offset.Given as goal

abbrev pub decreases-offset : goal.decreases-offset
decreases-offset l = length l.dims.now
