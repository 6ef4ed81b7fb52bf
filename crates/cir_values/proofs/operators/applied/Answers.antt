use Rattle.cir_values.proofs.operators.applied.Goals as goal

pub returns-in_ok-v-in-Quotient-clause-within : goal.returns-in_ok-v-in-Quotient-clause-within
returns-in_ok-v-in-Quotient-clause-within c = λ n p w v. c.in_ok-v-in-Quotient.ensures.within n p w

pub returns-in_ok-v-in-Power-clause-within : goal.returns-in_ok-v-in-Power-clause-within
returns-in_ok-v-in-Power-clause-within c = λ n p w v. c.in_ok-v-in-Power.ensures.within n w

pub returns-in-Division-clause-within : goal.returns-in-Division-clause-within
returns-in-Division-clause-within c = λ n p w v. c.divided_numbers.ensures.within n

pub returns-in-Plain-clause-within : goal.returns-in-Plain-clause-within
returns-in-Plain-clause-within c = λ n p w v. c.numbers.ensures.within n
