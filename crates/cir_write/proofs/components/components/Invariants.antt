use Rattle.cir_ast.specs.Tree.{bare_component}
use Rattle.cir_meaning.specs.Simple.{component_declaration}
use Rattle.cir_evaluate.specs.Within.{at_spot}
use Rattle.cir_steps.specs.Emission.{emit_known, Emitted}
use Rattle.cir_write.proofs.Each.{each_from}
use Rattle.cir_make.specs.Emits.{go_on}
use Rattle.cir_make.specs.Means.{BodyMeans, emitting_in}
use Rattle.cir_make.specs.Shows.{Shows}
use Rattle.cir_make.proofs.Going.{Rests}
use Rattle.cir_write.proofs.components.components.Given as goal

abbrev pub invariant-loop-c : goal.invariant-loop-c
invariant-loop-c g l =
    (m : BodyMeans (goal.C-post g l.body.context.now.call.now) (goal.M-post g l.body.make.now)
    l.body) (d : Emitted) → Shows m.first l.initial.inside l.initial.whole d
    → Rests m.first l.inside l.whole
    (go_on d (each_from (λ x. emit_known (component_declaration (emitting_in l.body m).context
    (at_spot l.body.context.now l.spot) x)) bare_component l.cs 0))
    (each_from (λ x. emit_known (component_declaration (emitting_in l.body m).context (at_spot
    l.body.context.now l.spot) x)) bare_component l.cs l.c-index)
