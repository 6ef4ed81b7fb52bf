use Rattle.std.proofs.Common.{◌≡◌, ◌+◌, ◌++◌, [], map, take, get_or}
use Rattle.lig_merkle.proofs.tree.put_level.Given as goal

abbrev pub invariant-loop-place : goal.invariant-loop-place
invariant-loop-place l = l.out.items ≡ l.initial.out.items
    ++ map (λ place. get_or l.nodes (l.first + place) []) (take l.place-index l.level)
