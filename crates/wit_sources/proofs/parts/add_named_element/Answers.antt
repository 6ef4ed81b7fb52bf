use Rattle.std.proofs.Common.{◌∙◌, ap, sym}
use Rattle.std.specs.Prelude.{option_map}
use Rattle.std.specs.Option.{option_copied}
use Rattle.wit_lower.specs.Homes.{find}
use Rattle.wit_sourced.specs.Shown.{home_of, sought_name}
use Rattle.wit_sources.specs.Collected.{homes_in, seen}
use Rattle.wit_sources.proofs.Element.{given_nowhere, missing_read}
use Rattle.wit_sources.proofs.parts.add_named_element.Goals as goal

pub returns-in_default-clause-reads : goal.returns-in_default-clause-reads
returns-in_default-clause-reads g c =
    let x = sought_name c.args.name in
    let homes = homes_in c.args.found.now in
    let offer = g.I.Inputs.offer c.args.inputs.now in
    missing_read x c.args.element homes offer (seen c.args.found.now)
    (given_nowhere x c.args.element homes offer
    (ap (find x) (sym (ap (λ s. s.homes) c.args.found.now.sources.named.now.shown))
    ∙ sym c.find.ensures ∙ ap (λ o. option_map home_of (option_copied o)) c.in_default.is))
