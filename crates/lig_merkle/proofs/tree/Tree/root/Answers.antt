use Rattle.std.proofs.Common.{◌≡◌, ◌^◌, ◌<◌, length, [], subst, ap, ◌∙◌, arith, drop}
use Rattle.std.proofs.lemmas.List.{get_or_read}
use Rattle.std.proofs.lemmas.Nat.{pow_pos}
use Rattle.lig_merkle.specs.Merkle.{Leaves, root_at}
use Rattle.lig_merkle.proofs.Places.{below}
use Rattle.lig_merkle.proofs.tree.Tree.root.Goals as goal

pub returns : goal.returns
returns c =
    let pos = pow_pos c.self.inside.depth in
    let count = c.self.invariant.count in
    let within : 1 < length c.self.inside.nodes.items = omega arith in
    let IsRoot : Leaves → Type 0 = λ t. c.index.result.now ≡ root_at t.depth t.hashes in
    subst IsRoot c.self.view_is
    (get_or_read c.self.inside.nodes.items 1 c.index.result.now within c.index.ensures []
    ∙ below c.self.inside.depth 0 (2 ^ c.self.inside.depth) 1 c.self.inside.nodes.items
    c.self.invariant.joined (ap (λ n. 2 ^ n) (omega arith)) (omega arith) (omega arith)
    ∙ ap (λ n. root_at c.self.inside.depth (drop n c.self.inside.nodes.items)) (omega arith))
