use Rattle.lig_merkle.proofs.Walk.{Leading}
use Rattle.lig_merkle.proofs.opened.root_of_many.Given as goal

abbrev pub invariant-loop : goal.invariant-loop
invariant-loop l =
    Leading l.depth l.counter l.opened l.leaves l.fn.nodes l.known.items l.hashes.items l.left
