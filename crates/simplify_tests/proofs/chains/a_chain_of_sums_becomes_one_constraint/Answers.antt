use Rattle.simplify_tests.proofs.chains.a_chain_of_sums_becomes_one_constraint.Goals as goal

pub simplify-requires-2-clause-within : goal.simplify-requires-2-clause-within
simplify-requires-2-clause-within g c = rw c.as_slice-list.ensures.value c.in_ok-chain.ensures.1
