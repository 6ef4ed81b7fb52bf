use Rattle.wit_emit.proofs.pieces.+bounds.Given as goal

abbrev pub decreases-bounds : goal.decreases-bounds
decreases-bounds l = l.count
