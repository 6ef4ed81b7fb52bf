use Rattle.cir_ast.specs.Tree.{bare_simple}
use Rattle.cir_lift.specs.Turned.{turned}
use Rattle.cir_steps.specs.Emission.{Emitted}
use Rattle.cir_steps.specs.Emit.{emit_execute_counted}
use Rattle.cir_make.specs.Emits.{go_on}
use Rattle.cir_make.specs.Means.{BodyMeans, emitting_in}
use Rattle.cir_make.specs.Shows.{Shows}
use Rattle.cir_write.proofs.Each.{each_from}
use Rattle.cir_make.proofs.Going.{Rests}
use Rattle.cir_body.proofs.simple.lifted.Given as goal

abbrev pub invariant-loop-before : goal.invariant-loop-before
invariant-loop-before g l =
    (m : BodyMeans (goal.C-post g l.body.context.now.call.now) (goal.M-post g l.body.make.now)
    l.body) (d : Emitted) → Shows m.first l.initial.inside l.initial.whole d
    → Rests m.first l.inside l.whole
    (go_on d (each_from (emit_execute_counted (emitting_in l.body m) l.spot)
    (λ y. turned (bare_simple y)) l.before-items 0))
    (each_from (emit_execute_counted (emitting_in l.body m) l.spot)
    (λ y. turned (bare_simple y)) l.before-items l.before-index)
