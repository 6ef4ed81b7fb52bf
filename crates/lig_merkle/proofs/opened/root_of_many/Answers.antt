use Rattle.std.proofs.Common.{◌≡◌, ℕ, ◌+◌, ◌-◌, ◌<◌, ◌^◌, length, take, drop, [], sym, ap, ◌∙◌}
use Rattle.std.proofs.Common.{arith}
use Rattle.std.proofs.lemmas.List.{get_or_read}
use Rattle.lig_merkle.specs.Shared.{missing, parents, parent_hashes}
use Rattle.lig_merkle.proofs.Walk.{leading_as, leading_begins, leading_more, leading_ends, enough}
use Rattle.lig_merkle.proofs.Walk.{places_small}
use Rattle.lig_merkle.proofs.opened.root_of_many.Goals as goal

pub loop-init : goal.loop-init
loop-init c =
    leading_begins c.args.depth c.args.opened.now c.args.leaves.now c.args.nodes.now
    c.in_ok-known.known.items c.in_ok-hashes.hashes.items c.in_ok-known.ensures
    c.in_ok-hashes.ensures.items
    c.requires.opened c.requires.leaves c.requires.nodes

pub missing-requires-clause-rising : goal.missing-requires-clause-rising
missing-requires-clause-rising c = rw c.deref.ensures.value c.loop.invariant.level.rising

pub missing-requires-clause-small : goal.missing-requires-clause-small
missing-requires-clause-small c =
    rw c.deref.ensures.value
    (places_small (c.args.depth - c.loop.counter) c.loop.known.items
    (omega arith) c.loop.invariant.level)

pub split_at-requires : goal.split_at-requires
split_at-requires c =
    let known = c.loop.known.items in
    let beside : c.in_ok-beside.beside.items ≡ missing known =
    c.in_ok-beside.ensures ∙ ap (λ xs. missing xs) c.deref.ensures.value in
    let count : c.len.result ≡ length (missing known) =
    c.len.ensures ∙ c.in_ok-beside.beside.ok.0 ∙ ap length beside in
    let all =
    enough c.args.depth c.loop.counter c.args.opened.now c.args.leaves.now c.args.nodes.now
    known c.loop.hashes.items c.loop.left.now c.loop-test.true c.loop.invariant in
    omega arith

pub join-requires-clause-level : goal.join-requires-clause-level
join-requires-clause-level c =
    let known = c.loop.known.items in
    let inv = c.loop.invariant in
    let beside : c.in_ok-beside.beside.items ≡ missing known =
    c.in_ok-beside.ensures ∙ ap (λ xs. missing xs) c.deref.ensures.value in
    let count : c.len.result ≡ length (missing known) =
    c.len.ensures ∙ c.in_ok-beside.beside.ok.0 ∙ ap length beside in
    let all =
    enough c.args.depth c.loop.counter c.args.opened.now c.args.leaves.now c.args.nodes.now
    known c.loop.hashes.items c.loop.left.now c.loop-test.true inv in
    let same : c.deref-in-loop-2.result.now ≡ known = c.deref-in-loop-2.ensures.value in
    let here : c.deref-in-loop-4.result.now ≡ missing known =
    c.deref-in-loop-4.ensures.value ∙ beside in
    let front : length c.split_at.result.0.now ≡ c.len.result = c.split_at.ensures.front_len in
    record {
      rising = rw same inv.level.rising;
      small = rw same (places_small (c.args.depth - c.loop.counter) known (omega arith) inv.level);
      beside = here ∙ ap (λ xs. missing xs) (sym same);
      hashes = ap length c.deref-in-loop-3.ensures.value ∙ inv.hashes_count ∙ ap length (sym same);
      nodes = front ∙ count ∙ ap length (sym here);
    }

pub loop-preserved : goal.loop-preserved
loop-preserved c =
    let known = c.loop.known.items in
    let hashes = c.loop.hashes.items in
    let left = c.loop.left.now in
    let beside : c.in_ok-beside.beside.items ≡ missing known =
    c.in_ok-beside.ensures ∙ ap (λ xs. missing xs) c.deref.ensures.value in
    let count : c.len.result ≡ length (missing known) =
    c.len.ensures ∙ c.in_ok-beside.beside.ok.0 ∙ ap length beside in
    let above : c.in_ok-above.above.items ≡ parents known =
    c.in_ok-above.ensures ∙ ap (λ xs. parents xs) c.deref-in-loop.ensures.value in
    let here : c.split_at.result.0.now ≡ take (length (missing known)) left =
    c.split_at.ensures.front ∙ ap (λ n. take n left) count in
    let further : c.split_at.result.1.now ≡ drop (length (missing known)) left =
    c.split_at.ensures.back ∙ ap (λ n. drop n left) count in
    let joined : c.in_ok-joined.joined.items
    ≡ parent_hashes known hashes (take (length (missing known)) left) =
    c.in_ok-joined.ensures
    ∙ ap (λ xs. parent_hashes xs c.deref-in-loop-3.result.now c.split_at.result.0.now)
    c.deref-in-loop-2.ensures.value
    ∙ ap (λ xs. parent_hashes known xs c.split_at.result.0.now) c.deref-in-loop-3.ensures.value
    ∙ ap (λ xs. parent_hashes known hashes xs) here in
    leading_as c.args.depth (c.loop.counter + 1) c.args.opened.now c.args.leaves.now
    c.args.nodes.now (parents known) c.in_ok-above.above.items
    (parent_hashes known hashes (take (length (missing known)) left))
    c.in_ok-joined.joined.items (drop (length (missing known)) left) c.split_at.result.1.now above
    joined further
    (leading_more c.args.depth c.loop.counter c.args.opened.now c.args.leaves.now c.args.nodes.now
    known hashes left c.loop-test.true c.loop.invariant)

pub index-requires : goal.index-requires
index-requires c =
    let count = c.loop.invariant.hashes_count in
    let some = c.loop.invariant.level.some in
    omega (arith, c.loop.hashes.ok.0)

pub returns : goal.returns
returns c =
    let some : 0 < length c.loop.hashes.items = let count = c.loop.invariant.hashes_count
    in let some = c.loop.invariant.level.some in omega arith in
    get_or_read c.loop.hashes.items 0 c.index.result.now some c.index.ensures []
    ∙ leading_ends c.args.depth c.loop.counter c.args.opened.now c.args.leaves.now c.args.nodes.now
    c.loop.known.items c.loop.hashes.items c.loop.left.now c.loop-test.false c.loop.invariant
