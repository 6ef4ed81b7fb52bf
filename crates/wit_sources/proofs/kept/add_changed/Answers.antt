use Rattle.std.proofs.Common.{◌∙◌, ℕ, List, [], ap, subst, sym}
use Rattle.std.specs.Prelude.{flat_map}
use Rattle.std.specs.Option.{option_copied}
use Rattle.std.proofs.lemmas.Grind.{flat_map-append}
use Rattle.std.proofs.lemmas.Result.{on_ok_weaker}
use Rattle.wit_lower.specs.Homes as L
use Rattle.cir_emit.specs.Reads as E
use Rattle.wit_sourced.specs.Loaded.{changed_of}
use Rattle.wit_sources.specs.Given.{Reads}
use Rattle.wit_sources.specs.Collected.{homes_in, seen}
use Rattle.wit_sources.proofs.Reading.{reads_both}
use Rattle.wit_sources.proofs.kept.add_changed.Goals as goal

pub returns-in_ok-add_variables-in-Some-clause-reads :
    goal.returns-in_ok-add_variables-in-Some-clause-reads
returns-in_ok-add_variables-in-Some-clause-reads g c =
    let homes = homes_in c.args.found.now in
    let offer = g.I.Inputs.offer c.args.inputs.now in
    let part : (ℕ → List E.Reading) =
    λ n. E.part_of (L.Variable n) (L.find (L.Variable n) homes) [] in
    let one = seen c.args.found.now in
    let mid = seen c.add_variables.new.found in
    let two = seen c.add_variables-in-Some.new.found in
    let touched = c.in-Some.touched.now in
    let written = touched.written.items in
    let declared = touched.declared.items in
    let first = rw c.as_slice.ensures.value at c.in_ok-add_variables-in-Some.ensures.reads in
    on_ok_weaker c.add_variables-in-Some.result (λ second. subst (Reads homes offer one two)
    (sym (ap (λ o. flat_map part (changed_of (option_copied o))) c.in-Some.is
    ∙ flat_map-append part written declared))
    (reads_both homes offer one mid two (flat_map part written) (flat_map part declared) first
    second))
    (rw (c.as_slice-in-Some.ensures.value, c.add_variables.ensures.shapes)
    at c.add_variables-in-Some.ensures.reads)
