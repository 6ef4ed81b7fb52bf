use Rattle.std.proofs.Common.{List, ℕ, subst}
use Rattle.std.specs.Prelude.{map}
use Rattle.cir_emit.specs.Sourced as H
use Rattle.cir_rules.specs.Shown.{made_of}
use Rattle.wit_lower.specs.Sources as R
use Rattle.wit_lower.specs.Tasks as T
use Rattle.wit_sourced.specs.Loaded.{called_in, components_in}
use Rattle.wit_sourced.specs.Loads.{shape_of, source_of}
use Rattle.wit_sourced.proofs.Listed.{all_listed}
use Rattle.wit_statements.specs.Asked.{asked_by, step_sources, task_of}
use Rattle.cir_has.specs.Lowering.{ground_by}
use Rattle.cir_has.proofs.Told.{task_to}
use Rattle.cir_has.proofs.keys.add_keys.Goals as goal

pub returns-in-Ok-clause-has : goal.returns-in-Ok-clause-has
returns-in-Ok-clause-has g c = λ called told yes.
    let There = g.A.Arrays.there c.args.arrays.now in
    let keys = map made_of c.loop.keys.calls.items in
    let step = c.args.step.now in
    let shapes = map shape_of c.args.sources.now.named.now.shapes in
    let components = components_in step.components.now in
    let list = map source_of c.args.sources.now.list in
    let calls = step.calls.now in
    let task = task_of step.task in
    let sources = step_sources step.components.now (called_in calls) c.args.sources.now in
    let s = R.scope_of sources in
    task_to There keys shapes components list (T.changed_by task) (called_in calls) called s task
    (all_listed called calls (asked_by task) told step.listed)
    (subst (λ (ns : List ℕ). H.TaskHas There (ground_by keys sources ns) s task) step.changes
    c.in-Ok.ensures)
