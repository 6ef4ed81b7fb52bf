use Rattle.std.proofs.Common.{◌≡◌, ◌∙◌, map, ap}
use Rattle.std.specs.Option.{option_copied}
use Rattle.cir_rules.specs.Shown.{made_of}
use Rattle.wit_lower.specs.Tasks as T
use Rattle.wit_sourced.specs.Loaded.{called_in, changed_of, components_in}
use Rattle.wit_sourced.specs.Loads.{shape_of, source_of}
use Rattle.wit_sourced.proofs.Listed.{all_listed}
use Rattle.wit_statements.specs.Asked.{asked_by, task_of}
use Rattle.wit_statements.proofs.Agreed.{step_told}
use Rattle.wit_statements.proofs.steps.emit_step.Goals as goal

pub returns-clause-code : goal.returns-clause-code
returns-clause-code c = λ called told.
    let keys = map made_of c.args.keys.now.calls.items in
    let shapes = map shape_of c.args.sources.now.named.now.shapes in
    let list = map source_of c.args.sources.now.list in
    let step = c.args.step.now in
    let calls = step.calls.now in
    let task = task_of step.task in
    let changed = changed_of (option_copied c.as_ref.result) in
    let same : changed ≡ T.changed_by task =
    ap changed_of c.as_ref.ensures.value ∙ step.changes in
    c.in_ok-made.ensures.code
    ∙ step_told keys shapes (components_in step.components.now) list changed (called_in calls)
    called task same (all_listed called calls (asked_by task) told step.listed)
