use Rattle.std.proofs.Common.{◌≡◌, ◌^◌, ◌+◌, ◌-◌, ◌/◌, ◌<◌, ◌≤◌, ℕ, List, suc, length, get_or, []}
use Rattle.std.proofs.Common.{◌∷◌, ◌++◌, subst, ap, ◌∙◌, sym, arith}
use Rattle.std.proofs.lemmas.List.{get_or_read}
use Rattle.std.proofs.lemmas.Nat.{shr_le}
use Rattle.lig_merkle.specs.Merkle.{Leaves, path_at}
use Rattle.lig_merkle.specs.Nodes.{sibling_of}
use Rattle.lig_merkle.proofs.Places.{Climbs, climbs_more, climbs_end, length-leaves, sibling_within}
use Rattle.lig_merkle.proofs.Paths.{length-path_at}
use Rattle.lig_merkle.proofs.tree.Tree.path.Goals as goal

pub loop-preserved : goal.loop-preserved
loop-preserved c =
    let depth = c.self.inside.depth in
    let nodes = c.self.inside.nodes.items in
    let k = c.loop.counter in
    let small : c.args.index < 2 ^ depth =
    omega (
      arith,
      length-leaves depth nodes c.self.invariant.count,
      ap (λ (t : Leaves). length t.hashes) c.self.view_is,
    ) in
    let AtMost : ℕ → Type 0 = λ n. n ≤ 2 ^ depth + c.args.index in
    let Within : ℕ → Type 0 = λ n. n < length nodes in
    let more =
    climbs_more depth k (depth - suc k) nodes c.args.index c.loop.at c.loop.path.items
    c.self.invariant.joined (omega arith) small c.loop.invariant in
    let below : c.loop.at ≤ 2 ^ depth + c.args.index =
    subst AtMost (sym c.loop.invariant.place) (shr_le (2 ^ depth + c.args.index) k) in
    let within : c.sibling_of.result < length nodes =
    subst Within (sym c.sibling_of.ensures)
    (omega (
      arith,
      c.self.invariant.count,
      sibling_within c.loop.at (2 ^ depth) (omega arith),
    )) in
    let found : c.index.result.now ≡ get_or nodes (sibling_of c.loop.at) [] =
    get_or_read nodes c.sibling_of.result c.index.result.now within c.index.ensures []
    ∙ ap (λ i. get_or nodes i []) c.sibling_of.ensures in
    let one : suc k ≡ k + 1 = omega arith in
    let At : ℕ
    → Type 0 =
    λ n. Climbs depth nodes c.args.index n (c.loop.at / 2)
    (c.loop.path.items ++ get_or nodes (sibling_of c.loop.at) [] ∷ []) in
    let Along : List (List ℕ) → Type 0 =
    λ path. Climbs depth nodes c.args.index (k + 1) (c.loop.at / 2) path in
    subst Along (sym (c.in_ok-push.ensures.items ∙ ap (λ x. c.loop.path.items ++ x ∷ []) found))
    (subst At one more)

pub returns-clause-path : goal.returns-clause-path
returns-clause-path c =
    let depth = c.self.inside.depth in
    let nodes = c.self.inside.nodes.items in
    let whole : c.loop.counter ≡ depth = omega arith in
    let IsDone : ℕ → Type 0 = λ n. Climbs depth nodes c.args.index n c.loop.at c.loop.path.items in
    let small : c.args.index < 2 ^ depth =
    omega (
      arith,
      length-leaves depth nodes c.self.invariant.count,
      ap (λ (t : Leaves). length t.hashes) c.self.view_is,
    ) in
    let IsPath : Leaves → Type 0 = λ t. c.loop.path.items ≡ path_at t.depth t.hashes c.args.index in
    subst IsPath c.self.view_is
    (climbs_end depth nodes c.args.index c.loop.at c.loop.path.items small
    (subst IsDone whole c.loop.invariant))

pub returns-clause-count : goal.returns-clause-count
returns-clause-count c =
    c.loop.path.ok.0 ∙ ap length (returns-clause-path c)
    ∙ length-path_at c.args.self.now.depth c.args.self.now.hashes c.args.index
