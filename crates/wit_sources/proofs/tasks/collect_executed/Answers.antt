use Rattle.std.proofs.Common.{◌∙◌, ap, map, subst, sym}
use Rattle.std.specs.Prelude.{option_map}
use Rattle.std.specs.Option.{option_copied}
use Rattle.std.proofs.lemmas.Result.{on_ok_weaker}
use Rattle.cir_ast.specs.Tree.{bare_assign, bare_statement}
use Rattle.wit_lower.specs.Tasks as T
use Rattle.cir_emit.specs.Reads as E
use Rattle.wit_statements.specs.Asked.{element_of}
use Rattle.wit_sources.specs.Given.{Reads}
use Rattle.wit_sources.specs.Collected.{ground_with, homes_in, seen, shapes_in}
use Rattle.wit_sources.proofs.Statements.{assign_is}
use Rattle.wit_sources.proofs.tasks.collect_executed.Goals as goal

pub returns-in-Some-clause-reads : goal.returns-in-Some-clause-reads
returns-in-Some-clause-reads g c =
    let s = c.args.setting.now in
    let found = c.args.found.now in
    let shapes = shapes_in found in
    let offer = g.I.Inputs.offer c.args.inputs.now in
    let homes = homes_in found in
    let one = seen found in
    let two = seen c.collect_assign.new.found in
    let ground = ground_with s shapes two.list in
    let is = assign_is (bare_statement c.args.a.now) (bare_assign c.in-Some.assign.now)
    (sym (ap (λ o. option_map bare_assign (option_copied o)) c.in-Some.is)
    ∙ c.assigned.ensures) in
    on_ok_weaker c.collect_assign.result (subst (λ a. Reads homes offer one two
    (E.task_reads ground homes (T.Executes a (map element_of c.args.targets.now)))) (sym is.is))
    (c.collect_assign.ensures.reads is.spot)
