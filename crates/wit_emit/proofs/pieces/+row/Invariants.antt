use Rattle.std.proofs.Common.{length}
use Rattle.wit_emit.proofs.pieces.+row.Given as goal

abbrev pub decreases-row : goal.decreases-row
decreases-row l = length l.dims.now
