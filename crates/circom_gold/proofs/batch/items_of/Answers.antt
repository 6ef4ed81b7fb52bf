use Rattle.std.proofs.Common.{List, All, arith, length, subst, subst₂, sym}
use Rattle.circom_batch.specs.declared.inputs.Entry.{Entry}
use Rattle.circom_batch.specs.declared.item.Item.{Item}
use Rattle.std.proofs.lemmas.List.Elements.{All-head}
use Rattle.circom_gold.specs.Batching.{IsEntryItem, IsWithin}
use Rattle.circom_gold.proofs.Batching.{Left, left_first, left_next, left_none}
use Rattle.circom_gold.proofs.batch.items_of.Goals as goal

pub loop-entry-init : goal.loop-entry-init
loop-entry-init c =
    let built = c.args.built.now in
    let R = IsEntryItem built.loaded.program.files built.circuit.instances built.file
    c.args.ends.now in
    let P = IsWithin (length c.args.ends.now) in
    subst₂ (λ (xs : List Entry) (ys : List Item). Left R P c.args.entries.items xs ys)
    (sym c.into_iter-entry-iterator.ensures.into_iter_gives.0)
    (sym c.in_ok-items.ensures.items)
    (left_first R P c.args.entries.items c.requires.within)

pub loop-entry-preserved : goal.loop-entry-preserved
loop-entry-preserved c =
    let built = c.args.built.now in
    let R = IsEntryItem built.loaded.program.files built.circuit.instances built.file
    c.args.ends.now in
    let P = IsWithin (length c.args.ends.now) in
    let left = c.next.new.self.rest.items in
    let ys = c.loop-entry.items.items in
    subst (λ (zs : List Item). Left R P c.args.entries.items left zs)
    (sym c.in_ok-push.ensures.items)
    (left_next R P c.args.entries.items left c.in-Some.entry ys c.in_ok-item.item
    (subst (λ (xs : List Entry). Left R P c.args.entries.items xs ys) c.in-Some.ensures.steps.0
    c.loop-entry.invariant) c.in_ok-item.ensures)

pub item_at-requires-clause-within : goal.item_at-requires-clause-within
item_at-requires-clause-within c =
    let P = IsWithin (length c.args.ends.now) in
    All-head P c.in-Some.entry c.next.new.self.rest.items
    (subst (λ (xs : List Entry). All P xs) c.in-Some.ensures.steps.0 c.loop-entry.invariant.still)

pub returns : goal.returns
returns c =
    let built = c.args.built.now in
    let rest = c.loop-entry.entry-iterator.rest in
    let none = c.in-None.ensures.steps.0 in
    left_none (IsEntryItem built.loaded.program.files built.circuit.instances built.file
    c.args.ends.now) (IsWithin (length c.args.ends.now)) c.args.entries.items rest.items
    c.loop-entry.items.items c.loop-entry.invariant (omega (arith, rest.ok.0, none))
