use Rattle.std.proofs.Common.{subst, sym}
use Rattle.std.proofs.lemmas.Result.{on_ok_weaker}
use Rattle.cir_ast.specs.Tree.{bare}
use Rattle.cir_emit.specs.Reads as E
use Rattle.wit_statements.specs.Asked.{task_of}
use Rattle.wit_sources.specs.Given.{Reads}
use Rattle.wit_sources.specs.Collected.{ground_with, homes_in, seen, shapes_in}
use Rattle.wit_sources.proofs.Reading.{expr_then}
use Rattle.wit_sources.proofs.tasks.collect_task.Goals as goal

pub returns-in_ok-collect-in-Equal-clause-reads : goal.returns-in_ok-collect-in-Equal-clause-reads
returns-in_ok-collect-in-Equal-clause-reads g c =
    let s = c.args.setting.now in
    let found = c.args.found.now in
    let shapes = shapes_in found in
    let offer = g.I.Inputs.offer c.args.inputs.now in
    let homes = homes_in found in
    let one = seen found in
    let two = seen c.collect-in-Equal-2.new.found in
    let ground = ground_with s shapes two.list in
    let mid = seen c.collect-in-Equal.new.found in
    let x = c.in-Equal in
    on_ok_weaker c.collect-in-Equal-2.result (λ made. subst (λ t. Reads homes offer one two
    (E.task_reads ground homes (task_of t))) (sym x.is)
    (expr_then s shapes offer (bare x.a.now) one mid two
    (E.expr_reads ground homes (bare x.b.now)) c.in_ok-collect-in-Equal.ensures.reads made))
    (rw c.collect-in-Equal.ensures.shapes at c.collect-in-Equal-2.ensures.reads)

pub returns-in-Asserts-clause-reads : goal.returns-in-Asserts-clause-reads
returns-in-Asserts-clause-reads g c =
    let s = c.args.setting.now in
    let found = c.args.found.now in
    let shapes = shapes_in found in
    let offer = g.I.Inputs.offer c.args.inputs.now in
    let homes = homes_in found in
    let one = seen found in
    let two = seen c.collect_assertion.new.found in
    let ground = ground_with s shapes two.list in
    on_ok_weaker c.collect_assertion.result (subst (λ t. Reads homes offer one two
    (E.task_reads ground homes (task_of t))) (sym c.in-Asserts.is))
    (c.collect_assertion.ensures.reads c.in-Asserts.field-0)

pub returns-in-Assigns-clause-reads : goal.returns-in-Assigns-clause-reads
returns-in-Assigns-clause-reads g c =
    let s = c.args.setting.now in
    let found = c.args.found.now in
    let shapes = shapes_in found in
    let offer = g.I.Inputs.offer c.args.inputs.now in
    let homes = homes_in found in
    let one = seen found in
    let two = seen c.collect_assign.new.found in
    let ground = ground_with s shapes two.list in
    on_ok_weaker c.collect_assign.result (subst (λ t. Reads homes offer one two
    (E.task_reads ground homes (task_of t))) (sym c.in-Assigns.is))
    (c.collect_assign.ensures.reads c.in-Assigns.field-0)

pub returns-in-Repeats-clause-reads : goal.returns-in-Repeats-clause-reads
returns-in-Repeats-clause-reads g c =
    let s = c.args.setting.now in
    let found = c.args.found.now in
    let shapes = shapes_in found in
    let offer = g.I.Inputs.offer c.args.inputs.now in
    let homes = homes_in found in
    let one = seen found in
    let two = seen c.collect_repeated.new.found in
    let ground = ground_with s shapes two.list in
    on_ok_weaker c.collect_repeated.result (subst (λ t. Reads homes offer one two
    (E.task_reads ground homes (task_of t))) (sym c.in-Repeats.is))
    (c.collect_repeated.ensures.reads c.in-Repeats.field-0)
