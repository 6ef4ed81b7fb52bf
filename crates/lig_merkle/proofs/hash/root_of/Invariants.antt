use Rattle.std.proofs.Common.{◌≡◌, drop}
use Rattle.lig_merkle.specs.Merkle.{root_of}
use Rattle.lig_merkle.proofs.hash.root_of.Given as goal

-- the rest of the path leads from the hash at hand where the whole path leads from the leaf
abbrev pub invariant-loop-sibling : goal.invariant-loop-sibling
invariant-loop-sibling l =
    root_of l.hash l.at (drop l.sibling-index l.path) ≡ root_of l.fn.leaf l.fn.index l.path
