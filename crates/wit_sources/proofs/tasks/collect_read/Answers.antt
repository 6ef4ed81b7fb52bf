use Rattle.std.proofs.Common.{◌∙◌, [], ap, subst, sym}
use Rattle.std.proofs.lemmas.Result.{on_ok_weaker}
use Rattle.cir_ast.specs.Tree.{as_accessors}
use Rattle.cir_emit.specs.Reads as E
use Rattle.wit_sources.specs.Given.{Reads}
use Rattle.wit_sources.specs.Collected.{ground_with, homes_in, seen, shapes_in}
use Rattle.wit_sources.proofs.Trees.{reads_place}
use Rattle.wit_sources.proofs.tasks.collect_read.Goals as goal

pub returns-clause-reads : goal.returns-clause-reads
returns-clause-reads g c =
    let s = c.args.setting.now in
    let found = c.args.found.now in
    let shapes = shapes_in found in
    let offer = g.I.Inputs.offer c.args.inputs.now in
    let homes = homes_in found in
    let one = seen found in
    let two = seen c.collect_place.new.found in
    let ground = ground_with s shapes two.list in
    let p = c.args.place.now in
    on_ok_weaker c.collect_place.result (subst (Reads homes offer one two)
    (ap (λ l. E.place_reads ground homes (E.Written p.meant) [] (as_accessors l))
    c.as_slice.ensures ∙ sym (reads_place ground homes p))) c.collect_place.ensures.reads
