use Rattle.std.proofs.Common.{◌++◌, ◌∙◌, ◌∷◌, [], List, ℕ, ap, ap₂, append-nil, map, subst, sym}
use Rattle.std.specs.Prelude.{flat_map}
use Rattle.std.proofs.lemmas.Result.{on_ok_weaker}
use Rattle.cir_ast.specs.Tree.{bare, bare_assign, bare_statement}
use Rattle.cir_meaning.specs.Arrays.{Scalar}
use Rattle.cir_meaning.specs.Statement.{loop_of}
use Rattle.cir_meaning.specs.Texts as X
use Rattle.cir_texts.specs.declared.texts.Wanted.TheVariants as wanted
use Rattle.cir_texts.specs.Shown.{wanted_of}
use Rattle.wit_lower.specs.Homes as L
use Rattle.cir_emit.specs.Reads as E
use Rattle.wit_statements.specs.Asked.{element_of}
use Rattle.wit_sources.specs.Given.{Reads}
use Rattle.wit_sources.specs.Collected.{ground_with, homes_in, seen, shapes_in}
use Rattle.wit_sources.proofs.Reading.{texts_read}
use Rattle.wit_sources.proofs.tasks.collect_repeated.Goals as goal

pub returns-clause-reads : goal.returns-clause-reads
returns-clause-reads g c = λ spot.
    let s = c.args.setting.now in
    let found = c.args.found.now in
    let shapes = shapes_in found in
    let offer = g.I.Inputs.offer c.args.inputs.now in
    let homes = homes_in found in
    let one = seen found in
    let two = seen c.collect_statement.new.found in
    let ground = ground_with s shapes two.list in
    let part : (ℕ → List E.Reading) =
    λ n. E.part_of (L.Variable n) (L.find (L.Variable n) homes) [] in
    let condition = bare c.args.condition.now in
    let body = bare_statement c.args.body.now in
    let step = bare_assign c.args.step.now.assign in
    let loop = loop_of spot condition body c.args.step.now.spot step in
    let targets = E.targets_kept (map element_of c.args.targets.now) in
    let texts = c.in_ok-add_assign.ensures.wanted
    ∙ ap (λ l. l ++ X.assign_wanted step) (c.in_ok-add.ensures.wanted
    ∙ ap (λ l. map wanted_of l ++ X.wanted_in body) (c.in_ok-push.ensures.items
    ∙ ap (λ l. l ++ wanted.Number c.args.condition ∷ []) c.new-texts.ensures.wanted))
    ∙ ap (λ l. record { want = Scalar; expr = condition } ∷ (X.wanted_in body ++ l))
    (sym (append-nil (X.assign_wanted step))) in
    on_ok_weaker c.collect_statement.result (subst (Reads homes offer one two)
    (ap₂ (λ ws ch. texts_read s shapes offer two.list ws ++ (flat_map part ch ++ targets)) texts
    (c.requires spot))) c.collect_statement.ensures.reads
