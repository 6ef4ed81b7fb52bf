use Rattle.std.proofs.Common.{arith, length, refl}
use Rattle.std.proofs.lemmas.Option.{slice_get_read}
use Rattle.wit_sourced.specs.declared.sources.Source.{Source}
use Rattle.wit_sourced.specs.Shown.{sought_name}
use Rattle.wit_sources.proofs.Element.{there}
use Rattle.wit_sources.proofs.parts.is_among_few.Goals as goal

pub returns-then-is_of : goal.returns-then-is_of
returns-then-is_of c = λ yes.
    let list = c.args.list.now in
    let n = c.loop-n.n in
    let s = c.index-list-n.result in
    let is = c.is_of.ensures c.if-is_of.true in
    there (sought_name c.args.name) c.args.element list n s
    (slice_get_read {X = Source} list (length list) n s refl (omega arith) c.index-list-n.is)
    is.0 is.1
