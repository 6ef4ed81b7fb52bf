use Rattle.gold_ntt.proofs.coset.+spread.Given as goal

abbrev pub decreases-spread : goal.decreases-spread
decreases-spread l = l.log
