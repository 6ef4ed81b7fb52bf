use Rattle.std.proofs.Common.{◌≡◌, [], ap, sym, ◌∙◌, arith}
use Rattle.std.specs.Prelude.{map}
use Rattle.std.proofs.lemmas.Bool.{eqb-true}
use Rattle.std.proofs.lemmas.List.{nil_from_length}
use Rattle.cir_values.specs.Meant.{meant}
use Rattle.cir_meaning.specs.Arrays.{item_at, single}
use Rattle.cir_meaning.specs.Places.{numbers_from}
use Rattle.cir_arrays.specs.Made.{made_count}
use Rattle.cir_arrays.specs.Shown.{datum_of}
use Rattle.cir_arrays.proofs.PartsRead.{items_count, known_read, single_read, unmade}
use Rattle.cir_arrays.proofs.arrays.Datum.part.Goals as goal

pub returns-then-is_empty : goal.returns-then-is_empty
returns-then-is_empty c =
    let d = datum_of c.args.self.now in
    let none = eqb-true _ _ (sym c.if-is_empty.ensures) in
    let e : c.args.reach.left.items ≡ [] =
    nil_from_length c.args.reach.left.items (omega (arith, none, c.args.reach.left.ok)) in
    λ indices m r. ap single c.in_ok-v-in-Known.ensures
    ∙ single_read (item_at d.items) d.dims indices
    c.args.reach c.in-Known.first c.in-Known.count m c.in-Known.is r (unmade c.args.self.now) e

pub invariant_of-result : goal.invariant_of-result
invariant_of-result c = record {
  sized = items_count (item_at (datum_of c.args.self.now).items) c.in_ok-items-in-Known.items.items
      c.in-Known.first c.made_elements.result c.in_ok-items-in-Known.ensures
      ∙ (c.made_elements.ensures ∙ ap made_count c.as_slice.ensures.value);
}

pub returns-in_ok-items-in-Known : goal.returns-in_ok-items-in-Known
returns-in_ok-items-in-Known c =
    let d = datum_of c.args.self.now in
    λ indices m r. known_read (item_at d.items) d.dims indices c.args.reach c.in-Known.first
    c.in-Known.count m c.in-Known.is r (unmade c.args.self.now)
    (map meant c.in_ok-items-in-Known.items.items) (c.in_ok-items-in-Known.ensures
    ∙ ap (λ n. map (item_at d.items) (numbers_from c.in-Known.first n))
    (c.made_elements.ensures ∙ ap made_count c.as_slice.ensures.value))
