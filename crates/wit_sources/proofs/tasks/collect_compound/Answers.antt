use Rattle.std.proofs.Common.{◌≡◌, ◌∙◌, ap, sym}
use Rattle.std.proofs.lemmas.Result.{on_ok_weaker}
use Rattle.cir_ast.specs.Tree.{Parentheses, bare, bare_place}
use Rattle.cir_evaluate.specs.Parts.{operator_by}
use Rattle.cir_meaning.specs.Operators.{Strict, operator_of}
use Rattle.wit_lower.specs.Pieces.{decided}
use Rattle.wit_sources.specs.Collected.{ground_with, homes_in, seen, shapes_in}
use Rattle.wit_sources.proofs.Reading.{binary_read}
use Rattle.wit_sources.proofs.tasks.collect_compound.Goals as goal

pub returns-clause-reads : goal.returns-clause-reads
returns-clause-reads g c =
    let s = c.args.setting.now in
    let found = c.args.found.now in
    let shapes = shapes_in found in
    let offer = g.I.Inputs.offer c.args.inputs.now in
    let homes = homes_in found in
    let one = seen found in
    let two = seen c.collect.new.found in
    let ground = ground_with s shapes two.list in
    let mid = seen c.collect_read.new.found in
    let a = bare_place c.args.place.now in
    let strict : Strict c.in-Strict.field-0 ≡ operator_of c.args.op =
    sym (ap operator_by c.in-Strict.is) ∙ c.operator_of.ensures in
    let none = ap (λ o. decided o ((ground_with s shapes mid.list).known a)) (sym strict) in
    on_ok_weaker c.collect.result (binary_read s shapes offer c.args.op a
    (Parentheses (bare c.args.e.now)) one mid two none c.in_ok-collect_read.ensures.reads)
    (rw c.collect_read.ensures.shapes at c.collect.ensures.reads)
