use Rattle.std.proofs.Common.{◌≡◌, map, take}
use Rattle.lig_merkle.specs.Merkle.{path_at}
use Rattle.lig_prover.proofs.opening.paths.Given as goal

abbrev pub invariant-loop-at : goal.invariant-loop-at
invariant-loop-at l = l.paths.items ≡ map (path_at l.tree.depth l.tree.hashes)
    (take l.at-index l.drawn)
