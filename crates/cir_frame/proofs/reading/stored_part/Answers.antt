use Rattle.cir_frame.proofs.reading.stored_part.Goals as goal

pub returns-in_ok-v-in-Some : goal.returns-in_ok-v-in-Some
returns-in_ok-v-in-Some c = rw c.in-Some.is c.in_ok-v-in-Some.ensures

pub returns-in-None : goal.returns-in-None
returns-in-None c = rw c.in-None.is c.no_part.ensures
