use Rattle.std.proofs.Common.{◌∙◌, ap, sym}
use Rattle.std.specs.Prelude.{map, Some}
use Rattle.std.specs.List.{list_all}
use Rattle.cir_arrays.specs.Reached.{want_of}
use Rattle.cir_meaning.specs.Arrays.{same_dims}
use Rattle.cir_rules.specs.Shaped.{literal_of, lists_in}
use Rattle.cir_rules.proofs.Shaping.{literal_differs}
use Rattle.cir_rules.proofs.shapes.literal_shape.Goals as goal

pub returns-then-not-are_same : goal.returns-then-not-are_same
returns-then-not-are_same c =
    let first = c.in-Some-first.first.now in
    let list = c.as_slice-shapes.result.now in
    let item = c.in-Some-first.ensures.item in
    sym (ap (λ o. literal_of (want_of c.args.want) (lists_in o)) c.in-Some.is
    ∙ ap (λ l. literal_of (want_of c.args.want) (Some (map (λ d. d.items) l)))
    (sym c.as_slice-shapes.ensures.value)
    ∙ literal_differs (want_of c.args.want) list first item.3.0 item.1
    (ap (λ ds. list_all (same_dims ds) (map (λ d. d.items) list)) (sym c.as_slice.ensures.value)
    ∙ sym c.are_same.ensures ∙ c.if-not-are_same.true))
