use Rattle.std.proofs.Common.{◌≡◌, ℕ, List, ◌+◌, ◌-◌, ◌*◌, ◌/◌, ◌<◌, ◌≤◌, ◌^◌, ◌++◌, All, length}
use Rattle.std.proofs.Common.{map, [], get_or, refl, subst, sym, ap, ◌∙◌, arith}
use Rattle.lig_merkle.specs.Merkle.{Leaves}
use Rattle.lig_merkle.specs.Shared.{AreOpened, missing, parents, shared_nodes}
use Rattle.lig_merkle.proofs.Walk.{gathering_begins, gathering_as, gathering_more, gathering_ends}
use Rattle.lig_merkle.proofs.Walk.{level_within, places_small}
use Rattle.lig_merkle.proofs.Leading.{length-shared_nodes}
use Rattle.lig_merkle.proofs.tree.Tree.nodes.Goals as goal

pub loop-init : goal.loop-init
loop-init c =
    let depth = c.self.inside.depth in
    let nodes = c.self.inside.nodes.items in
    let opened = c.args.opened.now in
    let Opened : Leaves → Type 0 = λ t. AreOpened t.depth opened in
    let opens : AreOpened depth opened = subst Opened (sym c.self.view_is) c.requires in
    let count = c.self.invariant.count in
    let first : c.len-first.result / 2 ≡ 2 ^ depth = omega (arith, c.self.inside.nodes.ok.0) in
    gathering_as depth 0 nodes opened opened c.in_ok-known.known.items
    (c.len-first.result / 2) [] c.new-nodes.result.items c.in_ok-known.ensures
    c.new-nodes.ensures.items
    (gathering_begins depth nodes opened opened (c.len-first.result / 2) refl first opens)

pub missing-requires-clause-rising : goal.missing-requires-clause-rising
missing-requires-clause-rising c = rw c.deref-in-loop.ensures.value c.loop.invariant.level.rising

pub missing-requires-clause-small : goal.missing-requires-clause-small
missing-requires-clause-small c =
    let small = c.self.invariant.small in
    rw c.deref-in-loop.ensures.value
    (places_small (c.self.inside.depth - c.loop.counter) c.loop.known.items
    (omega arith) c.loop.invariant.level)

pub put_level-requires : goal.put_level-requires
put_level-requires c =
    let known = c.loop.known.items in
    let nodes = c.self.inside.nodes.items in
    let beside : c.deref-in-loop-2.result.now ≡ missing known = c.deref-in-loop-2.ensures.value
    ∙ c.in_ok-missing.ensures ∙ ap (λ xs. missing xs) c.deref-in-loop.ensures.value in
    let Within : List (List ℕ) → Type 0 =
    λ xs. All (λ place. c.loop.first + place < length xs) (missing known) in
    let Places : List ℕ → Type 0 =
    λ xs. All (λ place. c.loop.first + place < length c.deref.result.now) xs in
    subst Places (sym beside) (subst Within (sym c.deref.ensures.value)
    (level_within c.self.inside.depth c.loop.counter nodes c.args.opened.now known c.loop.first
    c.loop.nodes.items c.loop-test.true c.self.invariant.count c.loop.invariant))

pub loop-preserved : goal.loop-preserved
loop-preserved c =
    let depth = c.self.inside.depth in
    let nodes = c.self.inside.nodes.items in
    let known = c.loop.known.items in
    let out = c.loop.nodes.items in
    let beside : c.deref-in-loop-2.result.now ≡ missing known = c.deref-in-loop-2.ensures.value
    ∙ c.in_ok-missing.ensures ∙ ap (λ xs. missing xs) c.deref-in-loop.ensures.value in
    let above : c.in_ok-known-2.known.items ≡ parents known =
    c.in_ok-known-2.ensures ∙ ap (λ xs. parents xs) c.deref-in-loop-3.ensures.value in
    let gathered : c.put_level.new.out.items
    ≡ out ++ map (λ place. get_or nodes (c.loop.first + place) []) (missing known) =
    c.in_ok-put_level.ensures
    ∙ ap (λ (xs : List (List ℕ)). out
    ++ map (λ place. get_or xs (c.loop.first + place) []) c.deref-in-loop-2.result.now)
    c.deref.ensures.value
    ∙ ap (λ xs. out ++ map (λ place. get_or nodes (c.loop.first + place) []) xs) beside in
    gathering_as depth (c.loop.counter + 1) nodes c.args.opened.now
    (parents known) c.in_ok-known-2.known.items (c.loop.first / 2)
    (out ++ map (λ place. get_or nodes (c.loop.first + place) []) (missing known))
    c.put_level.new.out.items above gathered
    (gathering_more depth c.loop.counter nodes c.args.opened.now known c.loop.first out
    c.loop-test.true c.self.invariant.joined c.loop.invariant)

pub returns-clause-nodes : goal.returns-clause-nodes
returns-clause-nodes c =
    let opened = c.args.opened.now in
    let Opened : Leaves → Type 0 = λ t. AreOpened t.depth opened in
    let opens : AreOpened c.self.inside.depth opened =
    subst Opened (sym c.self.view_is) c.requires in
    let Is : Leaves → Type 0 =
    λ t. c.loop.nodes.items ≡ shared_nodes t.depth (λ i. get_or t.hashes i []) opened in
    subst Is c.self.view_is
    (gathering_ends c.self.inside.depth c.loop.counter c.self.inside.nodes.items opened
    c.loop.known.items c.loop.first c.loop.nodes.items c.loop-test.false opens c.loop.invariant)

pub returns-clause-count : goal.returns-clause-count
returns-clause-count c =
    c.loop.nodes.ok.0 ∙ ap length (returns-clause-nodes c)
    ∙ length-shared_nodes c.args.self.now.depth (λ i. get_or c.args.self.now.hashes i [])
    c.args.opened.now
