use Rattle.determined_tests.proofs.circuits.found.Goals as goal

pub determine-requires-clause-below : goal.determine-requires-clause-below
determine-requires-clause-below c = c.is_circuit.ensures.below c.if-not-is_circuit.false
