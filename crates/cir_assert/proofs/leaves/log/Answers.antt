use Rattle.std.proofs.Common.{◌∷◌, [], ◌+◌, Some, ap, map, refl, sym}
use Rattle.cir_ast.specs.Tree.{bare_argument}
use Rattle.cir_meaning.specs.Frame.{uncounted}
use Rattle.cir_meaning.specs.Places.{numbers_from}
use Rattle.cir_meaning.specs.Statement.{log_values}
use Rattle.cir_meaning.specs.Steps.{log_cost, logged_cells}
use Rattle.cir_evaluate.specs.Within.{at_spot}
use Rattle.cir_assign.proofs.Stepping.{leads_behind}
use Rattle.cir_execute.proofs.Scanning.{kept_constraints}
use Rattle.cir_steps.specs.Emission.{known_in, step_of, with_state}
use Rattle.cir_steps.specs.Making.{log_parts}
use Rattle.cir_steps.specs.Step.{Logging}
use Rattle.cir_make.specs.Means.{emitting_in}
use Rattle.cir_make.specs.Shows.{equations_in}
use Rattle.cir_make.proofs.Leading.{kept_state, led_emits, on_ok}
use Rattle.cir_assert.proofs.LogSteps.{memory_emits, on_done}
use Rattle.cir_assert.proofs.leaves.log.Goals as goal

pub returns-in_err-line_step : goal.returns-in_err-line_step
returns-in_err-line_step g c = λ m d shows.
    memory_emits m.first _ _ c.from_residual.result _ _
    c.from_residual.ensures.1 c.in_err-line_step.ensures.memory

pub returns : goal.returns
returns g c = λ m d shows.
    let p = m.first in
    let k = (emitting_in c.args.body.now m).context in
    let w = at_spot c.args.body.now.context.now c.args.spot in
    let all = map bare_argument c.args.arguments.now in
    let qs = equations_in d.state in
    let f = c.args.inside.now.frame in
    let i = c.args.inside.now in
    let j = record i { cells = c.line_step.new.cells } in
    let u = c.args.whole.now in
    let w1 = c.line_step.new.world in
    let w2 = c.log.new.world in
    let v = record u { made = c.line_step.new.made; world = w2 } in
    let r = c.log.result in
    led_emits p i j u v d (log_values k w all)
    (λ s x. record (with_state s x) { next = x.next + logged_cells all })
    (λ s x. step_of k w (known_in x) (log_cost k w all (known_in x)) (Logging all)
    (numbers_from x.next (logged_cells all)) (Some (log_parts x.next all)) x ∷ []) shows r
    (leads_behind qs u.world w1 f w2 r _ _
    (ap (log_values k w all) (sym ((rw c.here.ensures at c.in_ok-line_step.ensures.same) m.means f
    qs)))
    (kept_constraints w1 u.world ((rw c.here.ensures at c.in_ok-line_step.ensures.keeps) m.means))
    (c.log.ensures m.means qs)) (λ s. refl)
    (on_ok r _ _ (λ x es. kept_state p f j.cells v.made _ _ _ x)
    (on_done r _ ((rw c.here.ensures at c.in_ok-line_step.ensures.made) m.means qs p
    d.state d.steps (log_cost k w all (known_in d.state)) refl (ap uncounted shows.state)
    shows.kept)))
