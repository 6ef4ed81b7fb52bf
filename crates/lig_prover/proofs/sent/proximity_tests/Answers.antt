use Rattle.lig_prover.proofs.sent.proximity_tests.Goals as goal

pub returns-clause-first : goal.returns-clause-first
returns-clause-first g c = rw c.deref.ensures.value at c.in_ok-first.ensures

pub returns-clause-second : goal.returns-clause-second
returns-clause-second g c = rw c.deref-2.ensures.value at c.in_ok-second.ensures
