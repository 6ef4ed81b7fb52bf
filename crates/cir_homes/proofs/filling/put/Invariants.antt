use Rattle.cir_homes.specs.Filled.{Puts}
use Rattle.cir_homes.proofs.filling.put.Given as goal

abbrev pub invariant-loop-k : goal.invariant-loop-k
invariant-loop-k l = Puts (record (l.row) { count = l.k }) l.first l.initial.found l.found
