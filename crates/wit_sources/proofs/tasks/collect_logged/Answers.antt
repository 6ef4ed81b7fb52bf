use Rattle.std.proofs.Common.{◌∙◌, ◌+◌, ◌∷◌, ap, drop, map, subst, sym}
use Rattle.std.specs.Prelude.{flat_map}
use Rattle.std.proofs.lemmas.List.{drop_all}
use Rattle.cir_arrays.proofs.Lists.{at_read}
use Rattle.cir_ast.specs.Tree.{bare, bare_argument}
use Rattle.wit_lower.specs.Tasks.{logged}
use Rattle.cir_emit.specs.Reads as E
use Rattle.wit_sources.specs.Given.{Seen, Reads}
use Rattle.wit_sources.specs.Collected.{ground_with, homes_in, seen, shapes_in}
use Rattle.wit_sources.proofs.Reading.{expr_then, reads_none}
use Rattle.wit_sources.proofs.tasks.collect_logged.Goals.{in-Value+in_ok-collect-in-Value, in-Words}
use Rattle.wit_sources.proofs.tasks.collect_logged.Goals as goal

pub loop-argument-preserved : goal.loop-argument-preserved
loop-argument-preserved g c =
    let s = c.args.setting.now in
    let found = c.args.found.now in
    let shapes = shapes_in found in
    let offer = g.I.Inputs.offer c.args.inputs.now in
    let homes = homes_in found in
    let loop = c.loop-argument in
    let list = c.args.arguments.now in
    let i = loop.argument-index in
    let now = seen loop.found in
    let later = map bare_argument (drop (i + 1) list) in
    let here = λ (u : Seen). at_read (λ l. flat_map (E.expr_reads (ground_with s shapes u.list)
    homes) (logged (map bare_argument l))) list i c.argument-item.result
    c.loop-argument-test.true c.argument-item.is in
    elim c.match-argument.branch [
      | in-Value+in_ok-collect-in-Value w ↦ rw w.found-is (
        w.collect.ensures.shapes ∙ loop.invariant.0,
        λ u rest. loop.invariant.1 u (subst (Reads homes offer now u)
            (sym (here u ∙ ap (λ x. flat_map (E.expr_reads (ground_with s shapes u.list) homes)
            (logged (bare_argument x ∷ later))) w.in-Value.is))
            (expr_then s shapes offer (bare w.in-Value.e) now (seen w.collect.new.found) u
            (flat_map (E.expr_reads (ground_with s shapes u.list) homes) (logged later))
            (rw loop.invariant.0 at w.in_ok-collect-in-Value.ensures.reads) rest)),
      )
      | in-Words w ↦ rw w.found-is (
        loop.invariant.0,
        λ u rest. loop.invariant.1 u (subst (Reads homes offer now u)
            (sym (here u ∙ ap (λ x. flat_map (E.expr_reads (ground_with s shapes u.list) homes)
            (logged (bare_argument x ∷ later))) w.in-Words.is)) rest),
      )
    ]

pub returns-clause-reads : goal.returns-clause-reads
returns-clause-reads g c =
    let found = c.args.found.now in
    let offer = g.I.Inputs.offer c.args.inputs.now in
    let homes = homes_in found in
    let loop = c.loop-argument in
    let now = seen loop.found in
    let ground = ground_with c.args.setting.now (shapes_in found) now.list in
    loop.invariant.1 now (subst (Reads homes offer now now)
    (sym (ap (λ l. flat_map (E.expr_reads ground homes) (logged (map bare_argument l)))
    (drop_all loop.argument-index c.args.arguments.now c.loop-argument-test.false)))
    (reads_none homes offer now))
