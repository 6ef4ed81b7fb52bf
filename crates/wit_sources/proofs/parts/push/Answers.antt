use Rattle.std.proofs.Common.{◌∙◌, ap, map}
use Rattle.std.proofs.lemmas.List.{map-append}
use Rattle.wit_sourced.specs.Loads.{source_of}
use Rattle.wit_sources.proofs.parts.push.Goals as goal

pub returns-in_ok-insert-clause-list : goal.returns-in_ok-insert-clause-list
returns-in_ok-insert-clause-list c =
    ap (map source_of) c.in_ok-push.ensures.ok
    ∙ map-append source_of c.args.found.now.sources.list _

pub returns-else-place-ge-FEW-clause-list : goal.returns-else-place-ge-FEW-clause-list
returns-else-place-ge-FEW-clause-list c =
    ap (map source_of) c.in_ok-push.ensures.ok
    ∙ map-append source_of c.args.found.now.sources.list _
