use Rattle.std.proofs.Common.{◌∙◌, ap, subst, sym}
use Rattle.std.specs.Prelude.{map}
use Rattle.std.proofs.lemmas.Result.{on_ok_weaker}
use Rattle.cir_ast.specs.Tree.{bare, bare_assign, bare_statement}
use Rattle.cir_emit.specs.Sourced as H
use Rattle.cir_meaning.specs.Writing.{plain}
use Rattle.wit_lower.specs.Homes as L
use Rattle.wit_lower.specs.Statements as S
use Rattle.wit_emit.specs.Grounds.{ground_of}
use Rattle.wit_sourced.specs.Shown.{scope_of}
use Rattle.wit_statements.specs.Asked.{element_of, task_of}
use Rattle.cir_has.proofs.Executed.{executes_has, repeats_has}
use Rattle.cir_has.proofs.tasks.has_task.Goals as goal

pub returns-in_ok-inner-in-Executes : goal.returns-in_ok-inner-in-Executes
returns-in_ok-inner-in-Executes g c =
    let There = g.A.Arrays.there c.args.arrays.now in
    let ground = ground_of c.args.ground.now in
    let s = scope_of c.args.scope.now in
    let x = c.in-Executes in
    let a = bare_statement x.a.now in
    let touched = c.in_ok-touched-in-Executes in
    let tested = c.in_ok-has_touched-in-Executes.ensures in
    on_ok_weaker c.has_inner.result (λ h.
    subst (λ t. H.TaskHas There ground s (task_of t)) (sym x.is)
    (executes_has There ground s a (map element_of x.field-1.now)
    touched.touched.declared.items touched.touched.assigned.items touched.ensures.declared
    touched.ensures.assigned tested.fresh tested.homes
    (subst (λ (y : L.Scope). H.StatementHas There ground y a) c.in_ok-inner-in-Executes.ensures h)))
    c.has_inner.ensures.has

pub returns-in_ok-has_turn-in-Repeats : goal.returns-in_ok-has_turn-in-Repeats
returns-in_ok-has_turn-in-Repeats g c =
    let There = g.A.Arrays.there c.args.arrays.now in
    let ground = ground_of c.args.ground.now in
    let s = scope_of c.args.scope.now in
    let x = c.in-Repeats in
    let test = bare x.condition.now in
    let body = bare_statement x.body.now in
    let step = bare_assign x.step.now.assign in
    let touched = c.in_ok-touched-in-Repeats in
    let tested = c.in_ok-has_touched-in-Repeats.ensures in
    let turn = c.in_ok-has_turn-in-Repeats.ensures in
    let shows = c.in_ok-inner-in-Repeats.ensures in
    subst (λ t. H.TaskHas There ground s (task_of t)) (sym x.is)
    (repeats_has There ground s x.field-0 x.step.now.spot test body step
    (map element_of x.field-4.now) touched.touched.declared.items touched.touched.assigned.items
    touched.ensures.declared touched.ensures.assigned tested.fresh tested.homes
    (subst (λ (y : L.Scope). H.HasAll There ground y.homes test) shows turn.condition)
    (subst (λ (y : L.Scope). H.StatementHas There ground y body) shows turn.body)
    (subst (λ (y : L.Scope). H.PlainHas There ground (S.scope_behind ground y body).homes
    (plain step)) shows turn.step))
