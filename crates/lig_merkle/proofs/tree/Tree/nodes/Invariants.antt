use Rattle.lig_merkle.proofs.Walk.{Gathering}
use Rattle.lig_merkle.proofs.tree.Tree.nodes.Given as goal

abbrev pub invariant-loop : goal.invariant-loop
invariant-loop l =
    Gathering l.self-inside.depth l.counter l.self-inside.nodes.items l.opened l.known.items l.first
    l.nodes.items
