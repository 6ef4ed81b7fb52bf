use Rattle.cir_simplify.proofs.turn.solved_at.Goals as goal

pub returns-clause-within : goal.returns-clause-within
returns-clause-within c = rw c.at-q.ensures at c.in_ok-f.ensures.within
