use Rattle.std.proofs.Common.{◌≡◌, vec_len}
use Rattle.field_tests.proofs.trees.tree_of.Given as goal

abbrev pub invariant-loop-number : goal.invariant-loop-number
invariant-loop-number g l = vec_len l.leaves ≡ l.number
