use Rattle.std.proofs.Common.{◌≡◌, ◌∙◌, ◌+◌, ◌∷◌, [], Some, ap, get_or, sym, subst, drop}
use Rattle.std.specs.Prelude.{OnOk, option_map}
use Rattle.std.specs.Option.{option_copied}
use Rattle.std.proofs.lemmas.List.{at_drop_more, drop_all}
use Rattle.cir_arrays.specs.Reached.{places_within}
use Rattle.cir_emit.specs.Reads as E
use Rattle.wit_lower.specs.Homes as L
use Rattle.wit_sourced.specs.Shown.{home_of, sought_name}
use Rattle.wit_sources.specs.Given.{Reads}
use Rattle.wit_sources.specs.Collected.{homes_in, seen}
use Rattle.wit_sources.proofs.Element.{part_is}
use Rattle.wit_sources.proofs.Reading.{reads_both, reads_none}
use Rattle.wit_sources.proofs.parts.add_part.Goals as goal

pub loop-place-preserved : goal.loop-place-preserved
loop-place-preserved g c =
    let loop = c.loop-place in
    let homes = homes_in c.args.found.now in
    let offer = g.I.Inputs.offer c.args.inputs.now in
    let x = sought_name c.args.name in
    let list = c.as_slice-place-items.result.now in
    let i = loop.place-index in (
      c.add_element-in-loop-place.ensures.shapes ∙ loop.invariant.0,
      λ u rest. loop.invariant.1 u (subst (Reads homes offer (seen loop.found) u)
          (sym (at_drop_more (λ l. E.elements_of x l) list i 0 c.loop-place-test.true))
          (reads_both homes offer (seen loop.found) (seen c.add_element-in-loop-place.new.found) u
          (record { name = x; element = get_or list i 0 } ∷ [])
          (E.elements_of x (drop (i + 1) list))
          (rw loop.invariant.0 at c.in_ok-add_element.ensures.reads) rest)),
    )

pub returns-in-Some-2-clause-reads : goal.returns-in-Some-2-clause-reads
returns-in-Some-2-clause-reads g c =
    let homes = homes_in c.args.found.now in
    let offer = g.I.Inputs.offer c.args.inputs.now in
    let x = sought_name c.args.name in
    let h = home_of c.in-Some.home.now in
    let found : L.find x homes ≡ Some h =
    ap (L.find x) (sym (ap (λ s. s.homes) c.args.found.now.sources.named.now.shown))
    ∙ sym c.find.ensures ∙ ap (λ o. option_map home_of (option_copied o)) c.in-Some.is in
    let places : places_within h.dims c.args.indices.now ≡ c.in-Some-2.place ∷ [] =
    rw (c.as_slice-dims.ensures, c.in-Some-2.is) at c.in_ok-place.ensures in
    subst (λ r. OnOk c.add_element.result (Reads homes offer (seen c.args.found.now)
    (seen c.add_element.new.found) r))
    (ap (λ l. E.elements_of x l) (sym places) ∙ part_is x h c.args.indices.now
    ∙ ap (λ o. E.part_of x o c.args.indices.now) (sym found))
    c.add_element.ensures.reads

pub returns-clause-reads : goal.returns-clause-reads
returns-clause-reads g c =
    let loop = c.loop-place in
    let homes = homes_in c.args.found.now in
    let offer = g.I.Inputs.offer c.args.inputs.now in
    let x = sought_name c.args.name in
    let list = c.as_slice-place-items.result.now in
    let h = home_of c.in-Some.home.now in
    let end : drop loop.place-index list ≡ [] =
    drop_all loop.place-index list c.loop-place-test.false in
    let all = loop.invariant.1 (seen loop.found) (subst (λ l. Reads homes offer (seen loop.found)
    (seen loop.found) (E.elements_of x l)) (sym end) (reads_none homes offer (seen loop.found))) in
    let found : L.find x homes ≡ Some h =
    ap (L.find x) (sym (ap (λ s. s.homes) c.args.found.now.sources.named.now.shown))
    ∙ sym c.find.ensures ∙ ap (λ o. option_map home_of (option_copied o)) c.in-Some.is in
    subst (λ r. Reads homes offer (seen c.args.found.now) (seen loop.found) r)
    (ap (λ l. E.elements_of x l) (c.as_slice-place-items.ensures.value ∙ c.in_ok-places.ensures)
    ∙ ap (λ ds. E.elements_of x (places_within ds c.args.indices.now))
    c.as_slice-dims.ensures
    ∙ part_is x h c.args.indices.now
    ∙ ap (λ o. E.part_of x o c.args.indices.now) (sym found)) all
