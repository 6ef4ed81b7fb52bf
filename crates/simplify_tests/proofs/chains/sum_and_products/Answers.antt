use Rattle.std.proofs.Common.{rules}
use Rattle.simplify_tests.proofs.chains.sum_and_products.Goals as goal

pub loop-init : goal.loop-init
loop-init c = c.in_ok-push_linear.ensures 1028 c.in_ok-sum.ensures (search rules)
