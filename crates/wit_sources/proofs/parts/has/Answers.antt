use Rattle.std.proofs.Common.{List, ap, length, refl, sym, ◌∙◌}
use Rattle.std.specs.Prelude.{slice_get}
use Rattle.std.proofs.lemmas.Option.{slice_get_read}
use Rattle.wit_sourced.specs.declared.sources.Source.{Source}
use Rattle.wit_sourced.specs.Shown.{sought_name}
use Rattle.wit_sources.proofs.Element.{there}
use Rattle.wit_sources.proofs.parts.has.Goals as goal

pub returns-in-Some-get : goal.returns-in-Some-get
returns-in-Some-get c = λ same.
    let list = c.args.found.now.sources.list in
    let source = c.in-Some-get.source.now in
    let is = c.is_of.ensures same in
    there (sought_name c.args.name) c.args.element list c.in-Some.place.now source
    (ap (λ (l : List Source). slice_get l c.in-Some.place.now) (sym c.as_slice-list.ensures)
    ∙ slice_get_read {X = Source} c.as_slice-list.result.now (length c.as_slice-list.result.now)
    c.in-Some.place.now source refl c.in-Some-get.ensures.lookup.3.0
    c.in-Some-get.ensures.lookup.1) is.0 is.1
