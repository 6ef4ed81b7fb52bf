use Rattle.cir_ast.specs.Tree.{bare_variable}
use Rattle.cir_evaluate.specs.Within.{at_spot}
use Rattle.cir_steps.specs.Emit.{emit_variable}
use Rattle.cir_write.proofs.Each.{each_from}
use Rattle.cir_steps.specs.Emission.{Emitted}
use Rattle.cir_make.specs.Emits.{go_on}
use Rattle.cir_make.specs.Means.{BodyMeans, emitting_in}
use Rattle.cir_make.specs.Shows.{Shows}
use Rattle.cir_make.proofs.Going.{Rests}
use Rattle.cir_write.proofs.variables.variables.Given as goal

abbrev pub invariant-loop-v : goal.invariant-loop-v
invariant-loop-v g l =
    (m : BodyMeans (goal.C-post g l.body.context.now.call.now) (goal.M-post g l.body.make.now)
    l.body) (d : Emitted) → Shows m.first l.initial.inside l.initial.whole d
    → Rests m.first l.inside l.whole
    (go_on d (each_from (emit_variable (emitting_in l.body m) (at_spot l.body.context.now l.spot))
    bare_variable l.vs 0))
    (each_from (emit_variable (emitting_in l.body m) (at_spot l.body.context.now l.spot))
    bare_variable l.vs l.v-index)
