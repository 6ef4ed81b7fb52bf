use Rattle.std.proofs.Common.{◌≡◌, ◌^◌, ◌*◌, length, ◌++◌, subst, ap, ◌∙◌, sym, arith, drop, take}
use Rattle.std.proofs.Common.{ℕ}
use Rattle.std.proofs.lemmas.List.{take_at}
use Rattle.lig_merkle.specs.Nodes.{AreJoined}
use Rattle.lig_merkle.proofs.Places.{same_power}
use Rattle.lig_merkle.proofs.tree.Tree.make.Goals as goal
use Rattle.lig_merkle.proofs.tree.Tree.make.Goals.{After-ilog2}

-- the depth that the code finds
depth_is : (c : After-ilog2) → length c.args.leaves.now ≡ 2 ^ c.ilog2.result
depth_is c = c.requires.1
    ∙ ap (λ n. 2 ^ n)
    (sym (same_power c.requires.0 c.ilog2.result (length c.args.leaves.now) c.requires.1
    c.ilog2.ensures.power_le c.ilog2.ensures.next_power_gt))

-- the nodes that the code leaves
nodes_are : (c : After-ilog2)
    → take c.in_ok-nodes.nodes.len
    (c.join.new.nodes ++ drop (length c.join.new.nodes) c.in_ok-nodes.nodes.items)
    ≡ c.join.new.nodes
nodes_are c =
    take_at c.join.new.nodes (drop (length c.join.new.nodes) c.in_ok-nodes.nodes.items)
    c.in_ok-nodes.nodes.len
    (omega (arith, c.join.ensures.length, c.in_ok-nodes.ensures.length, c.in_ok-nodes.nodes.ok.0))

pub returns-clause-same_depth : goal.returns-clause-same_depth
returns-clause-same_depth c =
    λ d e. same_power d c.ilog2.result (length c.args.leaves.now) e c.ilog2.ensures.power_le
    c.ilog2.ensures.next_power_gt

pub returns-clause-depth : goal.returns-clause-depth
returns-clause-depth c = depth_is c

pub returns-clause-leaves : goal.returns-clause-leaves
returns-clause-leaves c =
    rw (nodes_are c, ← depth_is c) (c.join.ensures.leaves
    ∙ ap (λ nodes. drop (length c.args.leaves.now) nodes) c.deref_mut.ensures.value
    ∙ c.in_ok-nodes.ensures.leaves)

pub invariant_of-result : goal.invariant_of-result
invariant_of-result c = rw (nodes_are c) (record {
  small = c.ilog2.ensures.bound;
  count = c.join.ensures.length ∙ ap (λ n. 2 * n) (depth_is c);
  joined = let Joined : ℕ → Type 0 = λ n. AreJoined n c.join.new.nodes
      in subst Joined (depth_is c) c.join.ensures.joined;
})
