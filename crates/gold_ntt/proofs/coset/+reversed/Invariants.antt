use Rattle.gold_ntt.proofs.coset.+reversed.Given as goal

abbrev pub decreases-reversed : goal.decreases-reversed
decreases-reversed l = l.k
