use Rattle.std.proofs.Common.{◌≡◌, ◌≤◌, length, sym, ◌∙◌, arith}
use Rattle.cir_meaning.specs.Places.{elements}
use Rattle.cir_arrays.proofs.Reaching.{one_place, none_left}
use Rattle.cir_arrays.proofs.places.place_of.Goals as goal

pub returns-clause-place : goal.returns-clause-place
returns-clause-place c =
    let same : length c.args.indices.now ≡ length c.args.dims.now = omega arith in
    let small : elements c.args.dims.now ≤ 67108864 = omega (arith, c.elements.ensures) in
    one_place c.args.dims.now c.args.indices.now c.first_place.result same
    (sym c.is_inside.ensures ∙ c.if-not-is_inside.false)
    (sym c.is_all_known.ensures ∙ c.if-not-is_all_known.false) small c.first_place.ensures

pub returns-clause-whole : goal.returns-clause-whole
returns-clause-whole c =
    let same : length c.args.indices.now ≡ length c.args.dims.now = omega arith in
    none_left c.args.dims.now c.args.indices.now same
