use Rattle.std.proofs.Common.{◌≡◌, ◌∙◌, ap, map, refl, subst}
use Rattle.std.specs.List.{AllByRecursion}
use Rattle.std.specs.Option.{option_copied}
use Rattle.wit_lower.specs.Sources as R
use Rattle.wit_lower.specs.Tasks as T
use Rattle.cir_emit.specs.Lowered.{IsLoaded}
use Rattle.cir_emit.specs.Sourced.{StandsFor}
use Rattle.wit_sourced.specs.Loaded.{called_in, changed_of, components_in}
use Rattle.wit_sourced.specs.Loads.{shape_of, source_of}
use Rattle.wit_sourced.proofs.Listed.{all_listed}
use Rattle.wit_statements.specs.Asked.{asked_by, task_of}
use Rattle.wit_sources.specs.Collected.{homes_of, seen}
use Rattle.wit_sources.specs.Told.{HasOffered}
use Rattle.wit_sources.proofs.Ended.{few_of, fit_of, loaded_of, offered_of, reads_are, whole_of}
use Rattle.wit_sources.proofs.tasks.sources_of.Goals as goal

pub returns-clause-fit : goal.returns-clause-fit
returns-clause-fit g c =
    let found = c.collect_task.new.found in
    let list = map source_of found.sources.list in
    let shapes = map shape_of c.args.named.now.shapes in
    let homes = homes_of shapes in
    let offer = g.I.Inputs.offer c.args.inputs.now in
    let a = (rw c.new-list.ensures at c.in_ok-collect_task.ensures.reads) tt in
    rw c.collect_task.ensures.shapes (fit_of homes offer (seen found) _ a)

pub returns-clause-given : goal.returns-clause-given
returns-clause-given g c =
    let found = c.collect_task.new.found in
    let list = map source_of found.sources.list in
    let shapes = map shape_of c.args.named.now.shapes in
    let homes = homes_of shapes in
    let offer = g.I.Inputs.offer c.args.inputs.now in
    let a = (rw c.new-list.ensures at c.in_ok-collect_task.ensures.reads) tt in
    offered_of homes offer (seen found) _ a

pub returns-clause-few : goal.returns-clause-few
returns-clause-few g c = λ keys called told.
    let found = c.collect_task.new.found in
    let list = map source_of found.sources.list in
    let shapes = map shape_of c.args.named.now.shapes in
    let homes = homes_of shapes in
    let offer = g.I.Inputs.offer c.args.inputs.now in
    let a = (rw c.new-list.ensures at c.in_ok-collect_task.ensures.reads) tt in
    let step = c.args.step.now in
    let calls = step.calls.now in
    let task = task_of step.task in
    let components = components_in step.components.now in
    let changed = changed_of (option_copied c.as_ref.result) in
    let same : changed ≡ T.changed_by task =
    ap changed_of c.as_ref.ensures.value ∙ step.changes in
    let reads = reads_are shapes components changed (called_in calls) called keys list task same
    (all_listed called calls (asked_by task) told step.listed) in
    rw c.collect_task.ensures.shapes (subst (λ r. AllByRecursion (StandsFor list r) list) reads
    (few_of homes offer (seen found) _ a))

pub returns-clause-loaded : goal.returns-clause-loaded
returns-clause-loaded g c = λ keys called told.
    let found = c.collect_task.new.found in
    let list = map source_of found.sources.list in
    let shapes = map shape_of c.args.named.now.shapes in
    let homes = homes_of shapes in
    let offer = g.I.Inputs.offer c.args.inputs.now in
    let a = (rw c.new-list.ensures at c.in_ok-collect_task.ensures.reads) tt in
    let step = c.args.step.now in
    let calls = step.calls.now in
    let task = task_of step.task in
    let components = components_in step.components.now in
    let changed = changed_of (option_copied c.as_ref.result) in
    let same : changed ≡ T.changed_by task =
    ap changed_of c.as_ref.ensures.value ∙ step.changes in
    let reads = reads_are shapes components changed (called_in calls) called keys list task same
    (all_listed called calls (asked_by task) told step.listed) in
    let sources : R.Sources =
    record { shapes = shapes; components = components; called = called; list = list } in
    rw c.collect_task.ensures.shapes (subst (AllByRecursion (HasOffered offer sources)) reads
    (loaded_of sources offer (seen found) _ refl a))

pub returns-clause-whole : goal.returns-clause-whole
returns-clause-whole g c = λ keys called told whole.
    let found = c.collect_task.new.found in
    let list = map source_of found.sources.list in
    let shapes = map shape_of c.args.named.now.shapes in
    let homes = homes_of shapes in
    let offer = g.I.Inputs.offer c.args.inputs.now in
    let a = (rw c.new-list.ensures at c.in_ok-collect_task.ensures.reads) tt in
    let step = c.args.step.now in
    let calls = step.calls.now in
    let task = task_of step.task in
    let components = components_in step.components.now in
    let changed = changed_of (option_copied c.as_ref.result) in
    let same : changed ≡ T.changed_by task =
    ap changed_of c.as_ref.ensures.value ∙ step.changes in
    let reads = reads_are shapes components changed (called_in calls) called keys list task same
    (all_listed called calls (asked_by task) told step.listed) in
    let sources : R.Sources =
    record { shapes = shapes; components = components; called = called; list = list } in
    rw c.collect_task.ensures.shapes (subst (AllByRecursion (IsLoaded sources)) reads
    (whole_of homes offer (seen found) _ a sources refl whole))
