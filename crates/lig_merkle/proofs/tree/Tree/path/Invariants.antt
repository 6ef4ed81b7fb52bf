use Rattle.lig_merkle.proofs.Places.{Climbs}
use Rattle.lig_merkle.proofs.tree.Tree.path.Given as goal

-- the path up to the place at hand
abbrev pub invariant-loop : goal.invariant-loop
invariant-loop l =
    Climbs l.self-inside.depth l.self-inside.nodes.items l.index l.counter l.at l.path.items
