use Rattle.std.proofs.Common.{◌∙◌, ◌+◌, ap, drop, map, subst, sym}
use Rattle.std.proofs.lemmas.List.{drop_all}
use Rattle.cir_arrays.proofs.Lists.{at_read}
use Rattle.cir_texts.specs.Shown.{wanted_of}
use Rattle.wit_sources.specs.Given.{Reads}
use Rattle.wit_sources.specs.Collected.{homes_in, seen, shapes_in}
use Rattle.wit_sources.proofs.Reading.{expr_then, reads_none, texts_read}
use Rattle.wit_sources.proofs.tasks.collect_texts.Goals as goal

pub loop-each-preserved : goal.loop-each-preserved
loop-each-preserved g c =
    let s = c.args.setting.now in
    let found = c.args.found.now in
    let shapes = shapes_in found in
    let offer = g.I.Inputs.offer c.args.inputs.now in
    let homes = homes_in found in
    let loop = c.loop-each in
    let list = c.args.wanted.now in
    let i = loop.each-index in
    let now = seen loop.found in
    let two = seen c.collect_wanted.new.found in (
      c.collect_wanted.ensures.shapes ∙ loop.invariant.0,
      λ u rest. loop.invariant.1 u (subst (Reads homes offer now u)
          (sym (at_read (λ l. texts_read s shapes offer u.list (map wanted_of l)) list i
          c.each-item.result c.loop-each-test.true c.each-item.is))
          (expr_then s shapes offer (wanted_of c.each-item.result).expr now two u
          (texts_read s shapes offer u.list (map wanted_of (drop (i + 1) list)))
          (rw loop.invariant.0 at c.in_ok-collect_wanted.ensures.reads) rest)),
    )

pub returns-clause-reads : goal.returns-clause-reads
returns-clause-reads g c =
    let s = c.args.setting.now in
    let found = c.args.found.now in
    let offer = g.I.Inputs.offer c.args.inputs.now in
    let loop = c.loop-each in
    let now = seen loop.found in
    loop.invariant.1 now (subst (Reads (homes_in found) offer now now)
    (sym (ap (λ l. texts_read s (shapes_in found) offer now.list (map wanted_of l))
    (drop_all loop.each-index c.args.wanted.now c.loop-each-test.false)))
    (reads_none (homes_in found) offer now))
