use Rattle.std.proofs.Common.{◌≡◌, true, is_some, ap, ◌∙◌}
use Rattle.std.proofs.lemmas.List.{take_rest}
use Rattle.cir_meaning.specs.Limits.{standing}
use Rattle.cir_meaning.specs.Places.{elements, is_inside, all_known}
use Rattle.cir_arrays.proofs.Reaching.{known_part, unknown_part, outside_part}
use Rattle.cir_arrays.proofs.reach.part_of.Goals as goal

pub returns-then-not-inside : goal.returns-then-not-inside
returns-then-not-inside c = outside_part c.args.dims.now c.args.indices.now cc

pub returns-then-not-is_all_known : goal.returns-then-not-is_all_known
returns-then-not-is_all_known c =
    let inside : is_inside c.args.dims.now c.args.indices.now ≡ true = cc in
    unknown_part c.args.dims.now c.args.indices.now inside cc

pub returns : goal.returns
returns c =
    let inside : is_inside c.args.dims.now c.args.indices.now ≡ true = cc in
    let known : is_some (all_known c.args.indices.now) ≡ true = cc in
    known_part c.args.dims.now c.args.indices.now _ _ c.requires.few inside known
    c.first_place.ensures
    (c.elements.ensures ∙ ap (λ zs. standing (elements zs)) (take_rest c.args.dims.now _))
