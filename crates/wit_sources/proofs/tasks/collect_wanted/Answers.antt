use Rattle.std.proofs.Common.{ap, subst, sym}
use Rattle.std.proofs.lemmas.Result.{on_ok_weaker}
use Rattle.cir_ast.specs.Tree.{bare_place}
use Rattle.cir_texts.specs.Shown.{wanted_of}
use Rattle.cir_emit.specs.Reads as E
use Rattle.wit_sources.specs.Given.{Reads}
use Rattle.wit_sources.specs.Collected.{ground_with, homes_in, seen, shapes_in}
use Rattle.wit_sources.proofs.Reading.{step_read}
use Rattle.wit_sources.proofs.tasks.collect_wanted.Goals as goal

pub returns-in-Step-clause-reads : goal.returns-in-Step-clause-reads
returns-in-Step-clause-reads g c =
    let s = c.args.setting.now in
    let found = c.args.found.now in
    let shapes = shapes_in found in
    let offer = g.I.Inputs.offer c.args.inputs.now in
    let homes = homes_in found in
    let one = seen found in
    let two = seen c.collect_read.new.found in
    let ground = ground_with s shapes two.list in
    on_ok_weaker c.collect_read.result (λ made. subst (λ e. Reads homes offer one two
    (E.expr_reads ground homes e)) (sym (ap (λ w. (wanted_of w).expr) c.in-Step.is))
    (step_read s shapes offer c.in-Step.field-0 (bare_place c.in-Step.place.now) 1 one two made))
    c.collect_read.ensures.reads
