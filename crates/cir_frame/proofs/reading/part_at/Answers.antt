use Rattle.cir_frame.proofs.reading.part_at.Goals as goal

pub returns-in-None : goal.returns-in-None
returns-in-None c = λ k. rw (← c.component.ensures k, c.in-None.is) c.refused.ensures

pub returns-in-Some : goal.returns-in-Some
returns-in-Some c = λ k. rw (← c.component.ensures k, c.in-Some.is) c.part_among.ensures
