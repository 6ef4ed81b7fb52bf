use Rattle.lig_merkle.proofs.Walk.{Counting}
use Rattle.lig_merkle.proofs.opened.shared.Given as goal

abbrev pub invariant-loop : goal.invariant-loop
invariant-loop l = Counting l.depth l.counter l.opened l.known.items l.count
