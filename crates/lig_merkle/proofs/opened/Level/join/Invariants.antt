use Rattle.std.proofs.Common.{◌≡◌, ◌++◌, map, take}
use Rattle.lig_merkle.specs.Shared.{level_over, hash_at}
use Rattle.lig_merkle.proofs.opened.Level.join.Given as goal

-- the hashes of the places so far
abbrev pub invariant-loop-place : goal.invariant-loop-place
invariant-loop-place l =
    let level =
    hash_at (l.self.known.now ++ l.self.beside.now) (l.self.hashes.now ++ l.self.nodes.now) in
    l.joined.items ≡ map (level_over level) (take l.place-index l.above)
