use Rattle.wit_emit.proofs.pieces.+offset.Given as goal

abbrev pub decreases-offset : goal.decreases-offset
decreases-offset l = l.n
