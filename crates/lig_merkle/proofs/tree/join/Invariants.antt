use Rattle.std.proofs.Common.{◌≡◌, ◌*◌, ◌+◌, ◌-◌, length}
use Rattle.lig_merkle.specs.Nodes.{AreJoinedFrom, SameLeaves}
use Rattle.lig_merkle.proofs.tree.join.Given as goal

-- the places from the last step's on are joined, and the leaves are as they were
abbrev pub invariant-loop-step : goal.invariant-loop-step
invariant-loop-step l =
    (length l.nodes ≡ 2 * l.count)
    × AreJoinedFrom (l.count + 1 - l.step) l.count l.nodes
    × SameLeaves l.count l.initial.nodes l.nodes
