use Rattle.std.proofs.Common.{◌≡◌, ℕ, ◌+◌, ◌-◌, ◌<◌, ◌^◌, length, ap, ◌∙◌, arith}
use Rattle.lig_merkle.specs.Shared.{missing, parents}
use Rattle.lig_merkle.proofs.Walk.{counting_as, counting_begins, counting_more, counting_fits}
use Rattle.lig_merkle.proofs.Walk.{counting_ends, places_small}
use Rattle.lig_merkle.proofs.opened.shared.Goals as goal
use Rattle.lig_merkle.proofs.opened.shared.Goals.{After-len}

pub loop-init : goal.loop-init
loop-init c =
    counting_begins c.args.depth c.args.opened.now c.in_ok-known.known.items c.in_ok-known.ensures
    c.requires.opened

pub missing-requires-clause-rising : goal.missing-requires-clause-rising
missing-requires-clause-rising c = rw c.deref.ensures.value c.loop.invariant.level.rising

pub missing-requires-clause-small : goal.missing-requires-clause-small
missing-requires-clause-small c =
    rw c.deref.ensures.value
    (places_small (c.args.depth - c.loop.counter) c.loop.known.items
    (omega arith) c.loop.invariant.level)

count_is : (c : After-len) → c.len.result ≡ length (missing c.loop.known.items)
count_is c = c.len.ensures ∙ c.in_ok-missing.field-0.ok.0 ∙ ap length c.in_ok-missing.ensures
    ∙ ap (λ xs. length (missing xs)) c.deref.ensures.value

pub overflow_cast-count : goal.overflow_cast-count
overflow_cast-count c =
    let fits =
    counting_fits c.args.depth c.loop.counter c.args.opened.now c.loop.known.items c.loop.count
    c.loop-test.true c.requires.depth c.requires.opened c.loop.invariant in
    omega (arith, count_is c)

pub overflow_add-count : goal.overflow_add-count
overflow_add-count c =
    let fits =
    counting_fits c.args.depth c.loop.counter c.args.opened.now c.loop.known.items c.loop.count
    c.loop-test.true c.requires.depth c.requires.opened c.loop.invariant in
    omega (arith, count_is c)

pub loop-preserved : goal.loop-preserved
loop-preserved c =
    let known = c.loop.known.items in
    let count : c.len.result ≡ length (missing known) = c.len.ensures ∙ c.in_ok-missing.field-0.ok.0
    ∙ ap length c.in_ok-missing.ensures
    ∙ ap (λ xs. length (missing xs)) c.deref.ensures.value in
    counting_as c.args.depth (c.loop.counter + 1) c.args.opened.now
    (parents known) c.in_ok-known-2.known.items (c.loop.count + length (missing known))
    (c.loop.count + c.len.result)
    (c.in_ok-known-2.ensures ∙ ap (λ xs. parents xs) c.deref-in-loop.ensures.value)
    (ap (λ n. c.loop.count + n) count)
    (counting_more c.args.depth c.loop.counter c.args.opened.now known c.loop.count c.loop-test.true
    c.loop.invariant)

pub returns : goal.returns
returns c =
    counting_ends c.args.depth c.loop.counter c.args.opened.now c.loop.known.items c.loop.count
    c.loop-test.false c.loop.invariant
