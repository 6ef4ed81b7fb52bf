use Rattle.determined_tests.proofs.circuits.worth_of.Goals as goal

pub confirm-requires-clause-below : goal.confirm-requires-clause-below
confirm-requires-clause-below c = c.is_circuit.ensures.below c.if-not-is_circuit.false
