use Rattle.gold_ntt.proofs.transform.+transform.Given as goal

abbrev pub decreases-transform : goal.decreases-transform
decreases-transform l = l.log
