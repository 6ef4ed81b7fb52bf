use Rattle.cir_values.proofs.operators.divided.Goals as goal

pub returns-in_ok-v-in-Some-clause-within : goal.returns-in_ok-v-in-Some-clause-within
returns-in_ok-v-in-Some-clause-within c = λ n p w. c.in_ok-v-in-Some.ensures.within n w
