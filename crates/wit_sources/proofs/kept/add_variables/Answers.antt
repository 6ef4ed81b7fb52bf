use Rattle.std.proofs.Common.{◌∙◌, ◌+◌, ℕ, List, [], ap, drop, get_or, subst, sym}
use Rattle.std.specs.Prelude.{flat_map}
use Rattle.std.proofs.lemmas.List.{at_drop_more, drop_all}
use Rattle.wit_lower.specs.Homes as L
use Rattle.cir_emit.specs.Reads as E
use Rattle.wit_sources.specs.Given.{Reads}
use Rattle.wit_sources.specs.Collected.{homes_in, seen}
use Rattle.wit_sources.proofs.Reading.{reads_both, reads_none}
use Rattle.wit_sources.proofs.kept.add_variables.Goals as goal

pub loop-n-preserved : goal.loop-n-preserved
loop-n-preserved g c =
    let homes = homes_in c.args.found.now in
    let offer = g.I.Inputs.offer c.args.inputs.now in
    let part : (ℕ → List E.Reading) =
    λ n. E.part_of (L.Variable n) (L.find (L.Variable n) homes) [] in
    let loop = c.loop-n in
    let list = c.args.numbers.now in
    let i = loop.n-index in (
      c.add_part.ensures.shapes ∙ loop.invariant.0,
      λ u rest. loop.invariant.1 u (subst (Reads homes offer (seen loop.found) u)
          (sym (at_drop_more (λ l. flat_map part l) list i 0 c.loop-n-test.true))
          (reads_both homes offer (seen loop.found) (seen c.add_part.new.found) u
          (part (get_or list i 0)) (flat_map part (drop (i + 1) list))
          (rw loop.invariant.0 at c.in_ok-add_part.ensures.reads) rest)),
    )

pub returns-clause-reads : goal.returns-clause-reads
returns-clause-reads g c =
    let homes = homes_in c.args.found.now in
    let offer = g.I.Inputs.offer c.args.inputs.now in
    let part : (ℕ → List E.Reading) =
    λ n. E.part_of (L.Variable n) (L.find (L.Variable n) homes) [] in
    let loop = c.loop-n in
    loop.invariant.1 (seen loop.found) (subst (Reads homes offer (seen loop.found)
    (seen loop.found)) (sym (ap (λ l. flat_map part l)
    (drop_all loop.n-index c.args.numbers.now c.loop-n-test.false)))
    (reads_none homes offer (seen loop.found)))
