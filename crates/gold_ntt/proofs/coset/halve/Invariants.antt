use Rattle.gold_ntt.proofs.Merging.{IsMerged}
use Rattle.gold_ntt.proofs.coset.halve.Given as goal

abbrev pub invariant-loop-j : goal.invariant-loop-j
invariant-loop-j l = IsMerged l.fn.a l.a l.start l.half (λ k. l.factor) l.j
