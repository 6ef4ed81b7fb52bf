use Rattle.simplify_samples.specs.Lists.{IsListed}
use Rattle.simplify_tests.proofs.chains.sum_and_products.Given as goal

abbrev pub invariant-loop : goal.invariant-loop
invariant-loop l = IsListed 1028 l.list.items
