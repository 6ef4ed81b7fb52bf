use Rattle.std.proofs.Common.{◌≡◌, ◌∙◌, ap, sym, subst, map, ◌++◌, ◌∷◌, []}
use Rattle.std.specs.Prelude.{nat_lt, option_map}
use Rattle.std.proofs.lemmas.Bool.{le-ltb, lt-ltb}
use Rattle.wit_lower.specs.Homes as L
use Rattle.wit_sourced.specs.Loads.{input_of, source_of}
use Rattle.wit_sourced.specs.Shown.{home_of, sought_name}
use Rattle.wit_sources.specs.Given.{Reads}
use Rattle.wit_sources.specs.Collected.{homes_in, seen}
use Rattle.wit_sources.proofs.Element.{given_inside, given_outside, missing_read, new_read}
use Rattle.wit_sources.proofs.Element.{there_read}
use Rattle.wit_sources.proofs.parts.add_element.Goals as goal

pub returns-then-element-made_elements-clause-reads :
    goal.returns-then-element-made_elements-clause-reads
returns-then-element-made_elements-clause-reads g c =
    let x = sought_name c.args.name in
    let k = c.args.element in
    let homes = homes_in c.args.found.now in
    let offer = g.I.Inputs.offer c.args.inputs.now in
    missing_read x k homes offer (seen c.args.found.now)
    (given_outside x k homes offer (home_of c.args.home.now) c.requires
    (ap (λ n. nat_lt k n) (sym (c.made_elements.ensures ∙ ap L.slots_of c.as_slice.ensures))
    ∙ le-ltb k c.made_elements.result c.if-element-made_elements.true))

pub returns-then-has-clause-reads : goal.returns-then-has-clause-reads
returns-then-has-clause-reads g c =
    there_read (sought_name c.args.name) c.args.element (homes_in c.args.found.now)
    (g.I.Inputs.offer c.args.inputs.now) (seen c.args.found.now)
    (c.has.ensures c.if-has.true)

pub returns-in_ok-push-in-Some-clause-reads : goal.returns-in_ok-push-in-Some-clause-reads
returns-in_ok-push-in-Some-clause-reads g c =
    let x = sought_name c.args.name in
    let k = c.args.element in
    let homes = homes_in c.args.found.now in
    let offer = g.I.Inputs.offer c.args.inputs.now in
    let old = c.args.found.now.sources.list in
    let input = input_of c.in-Some.input in
    let size = c.made_elements.ensures ∙ ap L.slots_of c.as_slice.ensures in
    let is = given_inside x k homes offer (home_of c.args.home.now) c.requires
    (ap (λ n. nat_lt k n) (sym size)
    ∙ lt-ltb k c.made_elements.result c.if-element-made_elements.false)
    ∙ sym c.in_ok-input.ensures ∙ ap (option_map input_of) c.in-Some.is in
    let state : record {
      list = map source_of old ++ record { name = x; element = k; input = input } ∷ [];
      whole = c.args.found.now.is_whole;
    } ≡ seen c.push.new.found = λ i. record {
      list = sym c.in_ok-push-in-Some.ensures.list i;
      whole = sym c.in_ok-push-in-Some.ensures.whole i;
    } in
    subst (λ u. Reads homes offer (seen c.args.found.now) u
    (record { name = x; element = k } ∷ [])) state
    (new_read x k homes offer (seen c.args.found.now) input is
    c.in_ok-push-in-Some.ensures.number)

pub returns-in-None-clause-reads : goal.returns-in-None-clause-reads
returns-in-None-clause-reads g c =
    let x = sought_name c.args.name in
    let k = c.args.element in
    let homes = homes_in c.args.found.now in
    let offer = g.I.Inputs.offer c.args.inputs.now in
    missing_read x k homes offer (seen c.args.found.now)
    (given_inside x k homes offer (home_of c.args.home.now) c.requires
    (ap (λ n. nat_lt k n) (sym (c.made_elements.ensures ∙ ap L.slots_of c.as_slice.ensures))
    ∙ lt-ltb k c.made_elements.result c.if-element-made_elements.false)
    ∙ sym c.in_ok-input.ensures ∙ ap (option_map input_of) c.in-None.is)
