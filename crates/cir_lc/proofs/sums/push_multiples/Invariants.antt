use Rattle.std.proofs.Common.{drop, []}
use Rattle.cir_lc.specs.Merge.{IsMerged}
use Rattle.cir_lc.proofs.sums.push_multiples.Given as goal

abbrev pub invariant-loop-t : goal.invariant-loop-t
invariant-loop-t l = IsMerged l.k l.initial.sum.items l.b l.sum.items [] (drop l.t-index l.b)
