use Rattle.cir_frame.specs.Shown.{state_of}
use Rattle.cir_evaluate.specs.Within.{context_at, where_at}
use Rattle.cir_execute.proofs.Standing.{unchanged, unchanged_by}
use Rattle.cir_execute.proofs.Placed.{arrow_faulty, assign_stands}
use Rattle.cir_execute.proofs.inside.add_assign.Goals as goal

pub returns-in-Ok-clause-cost : goal.returns-in-Ok-clause-cost
returns-in-Ok-clause-cost g c =
    let h = c.args.dark.now in
    λ m spot qs dark free.
    assign_stands (context_at h m) (where_at h) (state_of c.args.frame.now c.args.world.now qs)
    c.args.cost.now c.add_assigned.new.cost _ c.in-Some.p h.shaded c.in-Some.ensures dark
    (c.in-Ok.ensures.cost m qs)

pub returns-in-Ok-clause-same : goal.returns-in-Ok-clause-same
returns-in-Ok-clause-same g c =
    λ m. unchanged_by c.args.world.now c.add_assigned.new.world (c.in-Ok.ensures.same m)
    (c.in-Ok.ensures.keeps m)

pub returns-in-None-clause-cost : goal.returns-in-None-clause-cost
returns-in-None-clause-cost g c =
    λ m spot qs dark free. absurd (arrow_faulty spot _ c.in-None.ensures free)

pub returns-in-None-clause-same : goal.returns-in-None-clause-same
returns-in-None-clause-same g c = λ m. unchanged c.args.world.now
