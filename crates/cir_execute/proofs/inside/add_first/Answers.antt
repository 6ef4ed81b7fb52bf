use Rattle.cir_execute.proofs.inside.add_first.Goals as goal

pub returns-in-Vars-clause-cost : goal.returns-in-Vars-clause-cost
returns-in-Vars-clause-cost g c =
    λ m spot qs dark free. rw c.in-Vars.is
    (rw c.as_slice.ensures at (c.add_variables.ensures.cost m qs dark))

pub returns-in-Assign-clause-cost : goal.returns-in-Assign-clause-cost
returns-in-Assign-clause-cost g c =
    λ m spot qs dark free. rw c.in-Assign.is
    (c.add_assign.ensures.cost m spot qs dark (rw c.in-Assign.is at free))
