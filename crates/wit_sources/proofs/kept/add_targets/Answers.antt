use Rattle.std.proofs.Common.{◌∙◌, ◌+◌, [], ◌∷◌, ap, drop, get_or, map, subst, sym}
use Rattle.std.proofs.lemmas.List.{at_drop_more, drop_all}
use Rattle.wit_lower.specs.Homes.{Variable}
use Rattle.wit_statements.specs.Asked.{element_of}
use Rattle.wit_sources.specs.Given.{Reads}
use Rattle.wit_sources.specs.Collected.{homes_in, seen}
use Rattle.wit_sources.proofs.Reading.{reads_both, reads_none}
use Rattle.wit_sources.proofs.Runs.{kept_but, kept_one, kept_other}
use Rattle.wit_sources.proofs.kept.add_targets.Goals.{then-not-is_in+in_ok-add_named_element}
use Rattle.wit_sources.proofs.kept.add_targets.Goals.{else-not-is_in}
use Rattle.wit_sources.proofs.kept.add_targets.Goals as goal

pub loop-target-preserved : goal.loop-target-preserved
loop-target-preserved g c =
    let homes = homes_in c.args.found.now in
    let offer = g.I.Inputs.offer c.args.inputs.now in
    let loop = c.loop-target in
    let list = c.args.targets.now in
    let i = loop.target-index in
    let run = c.args.written.now in
    let target = element_of (get_or list i record { variable = 0; element = 0 }) in
    let later = map element_of (drop (i + 1) list) in
    let here = at_drop_more (λ l. kept_but run (map element_of l)) list i
    record { variable = 0; element = 0 } c.loop-target-test.true in
    elim c.if-not-is_in.branch [
      | then-not-is_in+in_ok-add_named_element w ↦ rw w.found-is (
        w.add_named_element.ensures.shapes ∙ loop.invariant.0,
        λ u rest. loop.invariant.1 u (subst (Reads homes offer (seen loop.found) u)
            (sym (here ∙ kept_one run target later (sym c.is_in.ensures ∙ w.if-not-is_in.true)))
            (reads_both homes offer (seen loop.found) (seen w.add_named_element.new.found) u
            (record { name = Variable target.variable; element = target.element } ∷ [])
            (kept_but run later)
            (rw loop.invariant.0 at w.in_ok-add_named_element.ensures.reads) rest)),
      )
      | else-not-is_in w ↦ rw w.found-is (
        loop.invariant.0,
        λ u rest. loop.invariant.1 u
            (subst (Reads homes offer (seen loop.found) u) (sym (here ∙ kept_other run target later
            (sym c.is_in.ensures ∙ w.if-not-is_in.false))) rest),
      )
    ]

pub returns-clause-reads : goal.returns-clause-reads
returns-clause-reads g c =
    let homes = homes_in c.args.found.now in
    let offer = g.I.Inputs.offer c.args.inputs.now in
    let loop = c.loop-target in
    loop.invariant.1 (seen loop.found) (subst (Reads homes offer (seen loop.found)
    (seen loop.found)) (sym (ap (λ l. kept_but c.args.written.now (map element_of l))
    (drop_all loop.target-index c.args.targets.now c.loop-target-test.false)))
    (reads_none homes offer (seen loop.found)))
