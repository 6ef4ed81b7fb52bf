use Rattle.std.proofs.Common.{◌++◌, List, [], ℕ, map, subst}
use Rattle.std.specs.Prelude.{flat_map}
use Rattle.std.specs.Option.{option_copied}
use Rattle.std.proofs.lemmas.Result.{on_ok_weaker}
use Rattle.cir_texts.specs.Shown.{wanted_of}
use Rattle.wit_lower.specs.Homes as L
use Rattle.cir_emit.specs.Reads as E
use Rattle.wit_sourced.specs.Loaded.{changed_of}
use Rattle.wit_statements.specs.Asked.{element_of}
use Rattle.wit_sources.specs.Given.{Reads}
use Rattle.wit_sources.specs.Collected.{homes_in, seen, shapes_in}
use Rattle.wit_sources.proofs.Reading.{reads_both, texts_then}
use Rattle.wit_sources.proofs.Runs.{kept_all}
use Rattle.wit_sources.proofs.tasks.collect_statement.Goals as goal

pub returns-clause-reads : goal.returns-clause-reads
returns-clause-reads g c =
    let s = c.args.setting.now in
    let found = c.args.found.now in
    let shapes = shapes_in found in
    let offer = g.I.Inputs.offer c.args.inputs.now in
    let homes = homes_in found in
    let one = seen found in
    let two = seen c.collect_texts.new.found in
    let three = seen c.add_changed.new.found in
    let four = seen c.add_targets.new.found in
    let part : (ℕ → List E.Reading) =
    λ n. E.part_of (L.Variable n) (L.find (L.Variable n) homes) [] in
    let changed = flat_map part (changed_of (option_copied s.changed)) in
    let targets = map element_of c.args.targets.now in
    let same = c.collect_texts.ensures.shapes in
    on_ok_weaker c.add_targets.result (λ kept. texts_then s shapes offer
    (map wanted_of c.args.texts.now.wanted.items) one two four (changed ++ E.targets_kept targets)
    (rw c.as_slice.ensures.value at c.in_ok-collect_texts.ensures.reads)
    (reads_both homes offer two three four changed (E.targets_kept targets)
    (rw same at c.in_ok-add_changed.ensures.reads)
    (subst (Reads homes offer three four) (kept_all targets) kept)))
    (rw (c.add_changed.ensures.shapes, same) at c.add_targets.ensures.reads)
