use Rattle.std.proofs.Common.{◌≡◌, ◌++◌, ◌∙◌, ap, map, subst}
use Rattle.std.proofs.lemmas.Result.{on_ok_weaker}
use Rattle.cir_ast.specs.Tree.{bare_assign}
use Rattle.cir_meaning.specs.Texts as X
use Rattle.cir_texts.specs.Shown.{wanted_of}
use Rattle.wit_statements.specs.Asked.{element_of}
use Rattle.wit_sources.specs.Given.{Reads}
use Rattle.wit_sources.specs.Collected.{homes_in, seen, shapes_in}
use Rattle.wit_sources.proofs.Reading.{assign_read, texts_read}
use Rattle.wit_sources.proofs.tasks.collect_assign.Goals as goal

pub returns-clause-reads : goal.returns-clause-reads
returns-clause-reads g c = λ spot.
    let s = c.args.setting.now in
    let found = c.args.found.now in
    let shapes = shapes_in found in
    let offer = g.I.Inputs.offer c.args.inputs.now in
    let one = seen found in
    let two = seen c.collect_texts.new.found in
    let three = seen c.collect_unwritten.new.found in
    let a = bare_assign c.args.a.now in
    let texts : map wanted_of c.as_slice.result.now ≡ X.assign_wanted a =
    ap (map wanted_of) c.as_slice.ensures.value ∙ c.in_ok-add_assign.ensures.wanted
    ∙ ap (λ l. map wanted_of l ++ X.assign_wanted a) c.new-texts.ensures.wanted in
    on_ok_weaker c.collect_unwritten.result (assign_read s shapes offer a spot
    (map element_of c.args.targets.now) one two three
    (subst (λ ws. Reads (homes_in found) offer one two (texts_read s shapes offer two.list ws))
    texts c.in_ok-collect_texts.ensures.reads))
    (rw c.collect_texts.ensures.shapes at c.collect_unwritten.ensures.reads)
