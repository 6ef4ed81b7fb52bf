use Rattle.std.proofs.Common.{◌≡◌, [], ap, sym, ◌∙◌, arith}
use Rattle.std.specs.Prelude.{map}
use Rattle.std.proofs.lemmas.Bool.{eqb-true}
use Rattle.std.proofs.lemmas.List.{nil_from_length}
use Rattle.cir_values.specs.Meant.{meant}
use Rattle.cir_meaning.specs.Arrays.{single}
use Rattle.cir_meaning.specs.Frame.{signal_item}
use Rattle.cir_meaning.specs.Places.{numbers_from}
use Rattle.cir_arrays.specs.Made.{made_count}
use Rattle.cir_frame.specs.Shown.{signal_of}
use Rattle.cir_arrays.proofs.PartsRead.{items_count, known_read, single_read}
use Rattle.cir_frame.proofs.SignalsRead.{unwired}
use Rattle.cir_frame.proofs.reading.wired_part.Goals as goal

pub returns-then-is_empty : goal.returns-then-is_empty
returns-then-is_empty c =
    let e = signal_of c.args.entry.now in
    let none = eqb-true _ _ (sym c.if-is_empty.ensures) in
    let left : c.args.reach.left.items ≡ [] =
    nil_from_length c.args.reach.left.items (omega (arith, none, c.args.reach.left.ok)) in
    λ indices m r. ap single c.in_ok-v-in-Known.ensures ∙ single_read (signal_item e) e.dims indices
    c.args.reach c.in-Known.first c.in-Known.count m c.in-Known.is r (unwired c.args.entry.now) left

pub invariant_of-result : goal.invariant_of-result
invariant_of-result c = record {
  sized = items_count (signal_item (signal_of c.args.entry.now)) c.in_ok-items-in-Known.items.items
      c.in-Known.first c.made_elements.result c.in_ok-items-in-Known.ensures
      ∙ (c.made_elements.ensures ∙ ap made_count c.as_slice.ensures.value);
}

pub returns-in_ok-items-in-Known : goal.returns-in_ok-items-in-Known
returns-in_ok-items-in-Known c =
    let e = signal_of c.args.entry.now in
    λ indices m r. known_read (signal_item e) e.dims indices c.args.reach c.in-Known.first
    c.in-Known.count m c.in-Known.is r (unwired c.args.entry.now)
    (map meant c.in_ok-items-in-Known.items.items) (c.in_ok-items-in-Known.ensures
    ∙ ap (λ n. map (signal_item e) (numbers_from c.in-Known.first n))
    (c.made_elements.ensures ∙ ap made_count c.as_slice.ensures.value))
