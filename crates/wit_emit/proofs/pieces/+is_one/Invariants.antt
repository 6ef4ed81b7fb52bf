use Rattle.std.proofs.Common.{length}
use Rattle.wit_emit.proofs.pieces.+is_one.Given as goal

abbrev pub decreases-is_one : goal.decreases-is_one
decreases-is_one l = length l.dims.now
