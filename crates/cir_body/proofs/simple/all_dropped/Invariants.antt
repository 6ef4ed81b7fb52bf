use Rattle.cir_ast.specs.Tree.{bare}
use Rattle.cir_meaning.specs.Simple.{dropped}
use Rattle.cir_evaluate.specs.Within.{at_spot}
use Rattle.cir_steps.specs.Emission.{emit_known, Emitted}
use Rattle.cir_write.proofs.Each.{each_from}
use Rattle.cir_make.specs.Emits.{go_on}
use Rattle.cir_make.specs.Means.{BodyMeans, emitting_in}
use Rattle.cir_make.specs.Shows.{Shows}
use Rattle.cir_make.proofs.Going.{Rests}
use Rattle.cir_body.proofs.simple.all_dropped.Given as goal

abbrev pub invariant-loop-e : goal.invariant-loop-e
invariant-loop-e g l =
    (m : BodyMeans (goal.C-post g l.body.context.now.call.now) (goal.M-post g l.body.make.now)
    l.body) (d : Emitted) → Shows m.first l.initial.inside l.initial.whole d
    → Rests m.first l.inside l.whole
    (go_on d (each_from (λ x. emit_known (dropped (emitting_in l.body m).context (at_spot
    l.body.context.now l.spot) x)) bare l.es 0))
    (each_from (λ x. emit_known (dropped (emitting_in l.body m).context (at_spot l.body.context.now
    l.spot) x)) bare l.es l.e-index)
