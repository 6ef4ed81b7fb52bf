use Rattle.iden_files.proofs.failing.first_failing.Goals as goal

pub first_failing_of-requires-clause-below : goal.first_failing_of-requires-clause-below
first_failing_of-requires-clause-below c =
    rw (c.constraints.ensures.constraints, c.requires.values) c.constraints.ensures.file.wired
