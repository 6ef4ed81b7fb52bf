use Rattle.std.proofs.Common.{◌∙◌, List, ℕ, ap, subst}
use Rattle.std.specs.Prelude.{map}
use Rattle.std.proofs.lemmas.Result.{on_ok_weaker}
use Rattle.cir_emit.specs.Sourced as H
use Rattle.cir_rules.specs.Shown.{made_of}
use Rattle.wit_lower.specs.Homes as L
use Rattle.wit_sourced.specs.Loaded.{called_in, changed_of}
use Rattle.wit_sourced.specs.Shown.{scope_of}
use Rattle.wit_statements.specs.Asked.{step_sources, task_of}
use Rattle.cir_has.specs.Lowering.{ground_by}
use Rattle.cir_has.proofs.keys.has_loaded.Goals as goal

pub returns : goal.returns
returns g c =
    let There = g.A.Arrays.there c.args.arrays.now in
    let step = c.args.step.now in
    let task = task_of step.task in
    let named = c.args.sources.now.named.now in
    let keys = map made_of c.args.keys.now.calls.items in
    let sources = step_sources step.components.now (called_in step.calls.now) c.args.sources.now in
    on_ok_weaker c.has_task.result (λ h.
    subst (λ (s : L.Scope). H.TaskHas There
    (ground_by keys sources (changed_of step.changed)) s task) named.shown
    (subst (λ (ns : List ℕ). H.TaskHas There
    (ground_by keys sources ns) (scope_of named.scope) task)
    (ap changed_of c.as_ref.ensures.value) h))
    c.has_task.ensures
