use Rattle.cir_evaluate.specs.Within.{at_spot}
use Rattle.cir_steps.specs.Emission.{Emitted}
use Rattle.cir_make.specs.Emits.{go_on}
use Rattle.cir_make.specs.Means.{BodyMeans, emitting_in}
use Rattle.cir_make.specs.Shows.{Shows}
use Rattle.cir_make.proofs.Going.{Rests}
use Rattle.cir_body.proofs.Slots.{slots_from}
use Rattle.cir_body.proofs.simple.all_slots.Given as goal

abbrev pub invariant-loop-at : goal.invariant-loop-at
invariant-loop-at g l =
    (m : BodyMeans (goal.C-post g l.body.context.now.call.now) (goal.M-post g l.body.make.now)
    l.body) (d : Emitted) → Shows m.first l.initial.inside l.initial.whole d
    → Rests m.first l.inside l.whole
    (go_on d (slots_from (emitting_in l.body m) (at_spot l.body.context.now l.spot) l.arrow l.slots
    l.es 0))
    (slots_from (emitting_in l.body m) (at_spot l.body.context.now l.spot) l.arrow l.slots l.es
    l.at)
